mod Lacked
mod Scanned
mod ReplaySteps
mod Outcomes
mod Hives
mod Told
mod Judged
