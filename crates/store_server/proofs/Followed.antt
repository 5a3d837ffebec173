-- All that one was told who followed a store.
use Rattle.std.proofs.Common.{◌≡◌, ◌∙◌, ◌+◌, ◌-◌, ◌≤◌, ℕ, zero, suc, Bool, List, [], ◌∷◌, ◌++◌, Option, Some, None, length, take, drop, refl, ap, arith, append_assoc, sym, subst}
use Rattle.std.proofs.lemmas.List.{length-append}
use Rattle.reg_tree.specs.Maps.{TreeMap}
use Rattle.reg_tree.specs.declared.element.Element.{Element}
use Rattle.engine_invariant.specs.Engines.{EngineView}
use Rattle.ktm_calls.specs.Moments.{SeesMore}
use Rattle.ktm_calls.proofs.Seen.{seen_trans}
use Rattle.registry_lines.specs.Scripts.{Script}
use Rattle.served_replies.specs.declared.reply.ServedReply.{ServedReply}
use Rattle.store_server.specs.Following.{AsksFlushes, EndsFollowing, FollowsOn, IsFollowed, TellsSubject, before}
use Rattle.store_server.specs.declared.subject.Subject.{Subject}
use Rattle.store_server.proofs.Slices.{parts_join}

-- what is told of changes and of those after them
tells_both : (subject : Subject) (after : ℕ) (xs ys : List Element) (front rest : List ServedReply) → TellsSubject subject after xs front → TellsSubject subject (after + length xs) ys rest → TellsSubject subject after (xs ++ ys) (front ++ rest)
tells_both subject after [] ys front rest none more =
    let e : after + length {A = Element} [] ≡ after = omega arith in
    subst (λ f. TellsSubject subject after ys (f ++ rest)) (sym none) (subst (λ n. TellsSubject subject n ys rest) e more)
tells_both subject after (x ∷ xs) ys front rest (one, left, tells, others, are) more =
    let e : after + length (x ∷ xs) ≡ (after + 1) + length xs = omega arith in
    let all = tells_both subject (after + 1) xs ys left rest others (subst (λ n. TellsSubject subject n ys rest) e more) in
    (one, left ++ rest, tells, all, ap (λ f. f ++ rest) are ∙ joined one left)
  where
    joined : (one : Option ServedReply) (left : List ServedReply) → before one left ++ rest ≡ before one (left ++ rest)
    joined None left = refl
    joined (Some reply) left = refl

module _ (sole : Bool) (origin : EngineView) (trees : List TreeMap) (number hives : ℕ) where
  asks_see : (count : ℕ) (a b : Script) → AsksFlushes sole origin trees number hives count a b → SeesMore a.session.seen b.session.seen
  asks_see zero a b quiet = quiet.goes_on.seen
  asks_see (suc count) a b (first, flushed, last, quiet, flushes, rest) =
      let heard = flushes.0 in
      seen_trans a.session.seen first.session.seen b.session.seen quiet.goes_on.seen (seen_trans first.session.seen last.session.seen b.session.seen heard.0.seen (asks_see count last b rest))

  follows_see : (subject : Subject) (old : Script) (at : ℕ) (chunks : List (List Element)) (replies : List ServedReply) (new : Script) → FollowsOn sole origin trees number hives subject old at chunks replies new → SeesMore old.session.seen new.session.seen
  follows_see subject old at [] replies new (last, asks, ends, are) = asks_see asks.0 old new asks.1
  follows_see subject old at (changes ∷ chunks) replies new (mid, front, rest, asks, durable, tells, follows, are) =
      seen_trans old.session.seen mid.session.seen new.session.seen (asks_see asks.0 old mid asks.1) (follows_see subject mid (at + length changes) chunks rest new follows)

  pub followed : (subject : Subject) (old : Script) (at : ℕ) (chunks : List (List Element)) (replies : List ServedReply) (new : Script) → FollowsOn sole origin trees number hives subject old at chunks replies new → IsFollowed origin number subject at new.session.seen replies
  followed subject old at [] replies new (last, asks, ends, are) =
      let e : at ≡ at + length {A = Element} [] = omega arith in
      ([], [], last, refl, refl, subst (λ n. EndsFollowing origin number n new.session.seen last) e ends, are)
  followed subject old at (changes ∷ chunks) replies new (mid, front, rest, asks, durable, tells, follows, are) =
      let next = at + length changes in
      let r = followed subject mid next chunks rest new follows in
      let more = r.0 in
      let seen = (follows_see subject mid next chunks rest new follows).list in
      let skip : next - number ≡ (at - number) + length changes = omega (arith, durable.since) in
      let within : at - number ≤ length mid.session.seen.list = omega (arith, durable.since, durable.there) in
      let later = new.session.seen.list in
      let first = subst (λ n. more ≡ take (length more) (drop n later)) skip r.3 in
      let count : next + length more ≡ at + length (changes ++ more) = ap (λ n. n) (sums at (length changes) (length more)) ∙ ap (λ n. at + n) (sym (length-append changes more)) in (
        changes ++ more,
        front ++ r.1,
        r.2,
        parts_join mid.session.seen.list later changes more (at - number) seen within durable.are first,
        tells_both subject at changes more front r.1 tells r.4,
        subst (λ n. EndsFollowing origin number n new.session.seen r.2) count r.5,
        are ∙ (ap (λ xs. front ++ xs) r.6 ∙ sym (append_assoc front r.1 (r.2 ∷ []))),
      )
    where
      sums : (a b c : ℕ) → (a + b) + c ≡ a + (b + c)
      sums a b c = omega arith
