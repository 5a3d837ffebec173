-- Changes of one cell, one after another.
use Rattle.std.proofs.Common.{◌≡◌, ℕ, List, Result, Ok, Err, OnOk, IfOk, Option, Some, None, IfSome, subst, ◌∙◌}
use Rattle.hive_savepoint.specs.Puts.{ChangesCell}

pub on_ok : {X E : Type 0} (r : Result X E) (A B : Type 0) → (A → B) → OnOk r A → OnOk r B
on_ok (Ok x) A B f h = f h
on_ok (Err e) A B f h = h

pub some_says : {A : Type 0} (o : Option A) (x : A) (P : A → Type 0) → o ≡ Some x → IfSome o P → P x
some_says o x P e h = subst (λ z. IfSome z P) e h

abbrev How : Type 1
How = List ℕ → List ℕ → Type 0

-- a change says less
pub weakly : (old new : List ℕ) (at : ℕ) (first then : How) → ((its now : List ℕ) → first its now → then its now) → ChangesCell old new at first → ChangesCell old new at then
weakly old new at first then f h = record {
  cells = λ before shows. let s = h.cells before shows in (s.0, s.1, s.2, λ its here. let d = s.3 its here in (d.0, d.1, f its d.0 d.2));
  sizes = h.sizes;
}

-- two changes of the same cell are one
pub twice : (old mid new : List ℕ) (at : ℕ) (first then both : How) → ((its half now : List ℕ) → first its half → then half now → both its now) → ChangesCell old mid at first → ChangesCell mid new at then → ChangesCell old new at both
twice old mid new at first then both f h g = record {
  cells = λ before shows.
      let s = h.cells before shows in
      let t = g.cells s.0 s.1 in (
        t.0,
        t.1,
        (λ cell apart. t.2 cell apart ∙ s.2 cell apart),
        (λ its here.
            let d = s.3 its here in
            let e = t.3 d.0 d.1 in (e.0, e.1, f its d.0 e.0 d.2 e.2)),
      );
  sizes = λ cell len has. g.sizes cell len (h.sizes cell len has);
}

-- what was made is so
pub if_made : {A E : Type 0} (r : Result (Option A) E) (P Q : A → Type 0) → ((x : A) → P x → Q x) → IfOk r (λ made. IfSome made P) → IfOk r (λ made. IfSome made Q)
if_made (Ok (Some x)) P Q f h = f x h
if_made (Ok None) P Q f h = h
if_made (Err e) P Q f h = h

-- two things hold of what was made
pub both_made : {A E : Type 0} (r : Result (Option A) E) (P Q R : A → Type 0) → ((x : A) → P x → Q x → R x) → IfOk r (λ made. IfSome made P) → IfOk r (λ made. IfSome made Q) → IfOk r (λ made. IfSome made R)
both_made (Ok (Some x)) P Q R f h g = f x h g
both_made (Ok None) P Q R f h g = h
both_made (Err e) P Q R f h g = h
