-- What sessions are asked to do.
use Rattle.std.specs.Prelude.{◌≡◌, ⊤, Bool, true, Option, Some, None}
use Rattle.client_desks.specs.declared.order.Order.{Order}
use Rattle.client_desks.specs.declared.order.Order.TheVariants.{Serve, Stop}
use Rattle.client_desks.specs.declared.order.Order.TheVariants as order
use Rattle.client_desks.specs.declared.order.Rest.{Rest}
use Rattle.client_desks.specs.declared.order.Rest.TheVariants.{Soon, Now}

-- the order after a rest was asked for: a stop stays, and so does a rest at once
abbrev pub order_with_rest : Order → Rest → Order
order_with_rest Serve how = order.Rest how
order_with_rest (order.Rest Soon) how = order.Rest how
order_with_rest (order.Rest Now) how = order.Rest Now
order_with_rest Stop how = Stop

-- the order of the next generation: a stop stays
abbrev pub order_without_rest : Order → Order
order_without_rest Serve = Serve
order_without_rest (order.Rest how) = Serve
order_without_rest Stop = Stop

-- the rest that is asked for
abbrev pub rest_of : Order → Option Rest
rest_of Serve = None
rest_of (order.Rest how) = Some how
rest_of Stop = None

-- a session that may rest, or may not, is to rest before its next line
abbrev pub IsRestDue : Order → Bool → Type 0
IsRestDue Serve may_rest = ⊥
IsRestDue (order.Rest Soon) may_rest = may_rest ≡ true
IsRestDue (order.Rest Now) may_rest = ⊤
IsRestDue Stop may_rest = ⊥
