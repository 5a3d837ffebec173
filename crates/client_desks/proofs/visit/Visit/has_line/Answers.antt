use Rattle.std.proofs.Common.{◌≡◌, true}
use Rattle.client_desks.specs.Visits.{piece_bytes}
use Rattle.client_desks.proofs.Visits.{in_back}
use Rattle.client_desks.proofs.visit.Visit.has_line.Goals as goal

pub returns-else-has_line_feed : goal.returns-else-has_line_feed
returns-else-has_line_feed c =
    let visit = c.args.self.now in
    let back = in_back visit.lines (piece_bytes visit.piece) c.has_line_feed.result c.piece_has_line_feed.result c.has_line_feed.ensures c.piece_has_line_feed.ensures c.if-has_line_feed.false in (
      (λ t. ((λ g. let gone : c.is_gone.result ≡ true = c.is_gone.ensures.1 g in cc), back.0 t)),
      λ h. back.1 h.1,
    )
