mod WhyRefused
