use Rattle.client_frames.proofs.HeadTexts.{no_cut, no_numbers, no_count}
use Rattle.client_frames.proofs.head.parse_data_head.Goals as goal

pub returns-in_err-place : goal.returns-in_err-place
returns-in_err-place c = rw c.from_residual.ensures (no_cut c.args.text.now c.in_err-place.ensures)

pub returns-in_err-place-2 : goal.returns-in_err-place-2
returns-in_err-place-2 c =
    rw c.from_residual-in_err-place-2.ensures (no_numbers c.args.text.now c.in_ok-place.place.now c.in_ok-place.count.now c.in_ok-place.ensures.0 c.in_ok-place.ensures.1 (λ p n ok counts e f. c.in_err-place-2.ensures p ok e))

pub returns-in_err-count : goal.returns-in_err-count
returns-in_err-count c =
    rw c.from_residual-in_err-count.ensures (no_numbers c.args.text.now c.in_ok-place.place.now c.in_ok-place.count.now c.in_ok-place.ensures.0 c.in_ok-place.ensures.1 (λ p n ok counts e f. c.in_err-count.ensures n counts.1 f))

pub returns-then-count-eq0 : goal.returns-then-count-eq0
returns-then-count-eq0 c =
    no_numbers c.args.text.now c.in_ok-place.place.now c.in_ok-place.count.now c.in_ok-place.ensures.0 c.in_ok-place.ensures.1 (λ p n ok counts e. no_count c.in_ok-place.count.now c.in_ok-count.count c.in_ok-count.ensures.1 c.if-count-eq0.true n counts)
