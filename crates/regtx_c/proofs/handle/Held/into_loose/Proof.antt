-- `into_loose` has the block again.
use Rattle.std.proofs.Common.{◌≡◌, Some, List, [], ◌∷◌, ◌++◌, refl, sym, ap, ◌∙◌, subst}
use mathlib.Core.Bool.{true}
use mir.Raw.{raw as bare}
use mir.Val.{Val, vptr}
use base.Logic.{SProp, ent, emp, id⊢, never, fst∗}
use prog.Wp.{WpFn}
use types.Logic.{sem}
use contract.Monad.{fact, fact_i}
use contract.Running.{tables}
use types.Kit.{use0, ‵, raw, ◌⊛◌, ◌$◌, ◌∵◌, !, qed, by, move, keep, split, fsplit, fjoin, suffices}
use types.Part.{agg, sub, whole}
use types.Run.{stop, fld, of_opd, no_more, and_then, returns, enter}
use types.ByLocal.{alloc_all, pass_all, free_all, look_at, get, get_in, sets}
use denote.RattleType.{owns}
use denote.Memory.{lone}
use denote.RawPtr.{Ptr, block_ptr, null_ptr, in_a_block}
use denote.Signature.{plain, types_at}
use denote.Steps.{heard, nothing}
use denote.Exit.{yes}
use denote.Triple.Entry.{alive}
use denote.Triple.Walked.{Stays, stay_dropped, walk_of}
use Rattle.std.specs.Box.Ownership.{box_owns}
use Rattle.std.proofs.alloc.Calls.{Goes-blank, handle_tells}
use Rattle.std.proofs.raw_atomic.Walks.{proved_at, leaves}
use Rattle.std.proofs.alloc.Global.TheLaws as heap_laws
use Rattle.std.specs.contracts.alloc.Global as heap
use Rattle.std.specs.contracts.impls.GlobalAllocator.TheImpl.{ghosts}
use Rattle.regtx_c.proofs.Values.{al, both, loose_good, loose_in}
use Rattle.regtx_c.proofs.HeldSteps.{alone, held_out, held_full}
use Rattle.regtx_c.specs.Held.{has_one, first, freed}
use Rattle.regtx_c.specs.contracts.block.Block as V
use Rattle.regtx_c.specs.contracts.handle.Held as R
use Rattle.regtx_c.specs.contracts.handle.Held.into_loose as f
use Rattle.regtx_c.proofs.handle.Held.into_loose.Statement.{statement}
use Rattle.regtx_c.proofs.handle.Held.into_loose.Code as code

abbrev stayed : Stays f.ended.signature.params f.ended.kept
stayed = (stay_dropped (plain (λ _. R.the_row)) yes, (stay_dropped (plain (λ _. heap.the_row)) yes, tt))

pub into_loose_spec : {M : Type 1} → statement M
into_loose_spec 𝓤 𝓛 𝓜 𝓡 wired =
    let H = 𝓛.H in let c = f.clauses 𝓛 𝓜.mem 𝓡.returns in let 𝓣 = tables 𝓤 H 𝓜 𝓡 𝓡.env in let fn = code.function in
    proved_at 𝓛 f.ended stayed c 𝓜 𝓡 (Goes-blank 𝓛 0 (plain (λ _. R.the_row)) yes (λ κs x w. tt), (Goes-blank 𝓛 0 (plain (λ _. heap.the_row)) yes (λ κs x w. tt), tt))
    f.Key.name fn (code.unfolded 𝓤 H 𝓜 𝓡 wired) (λ z are.
    let v = z.0.3.0 in let a = z.0.3.1.0 in let Post : Val → SProp 𝓤 = (walk_of 𝓛 f.ended stayed c).post z in let Run : List Val → SProp 𝓤 = λ ws. WpFn 𝓤 H 𝓣.C 𝓣.Λ fn ws Post in
    qed 𝓛 ((raw (alive 𝓛 f.signature z.0.0 z.0.1) ⊛ ‵ (owns (types_at f.signature.params z.0.0) z.0.3 z.0.4)) ∷ raw (fact 𝓤 (has_one v.blocks ≡ true)) ∷ []) ∵ move ! (1 ∷ []) $
    heard ! (has_one v.blocks ≡ true) (λ full. split ! $ move ! (1 ∷ []) $ fsplit ! $
    held_out ! v z.0.4.0 (λ ws. held_full ! v.at v.blocks full (λ x one.
    in_a_block ! v.at (λ p. box_owns freed V.the_row p x) (fst∗ 𝓤 (never 𝓤) (sem 𝓛 (freed (bare (lone (V.the_row).mir)) null_ptr))) (λ b o e. move ! (1 ∷ []) $ fsplit ! $
    handle_tells (al V.the_row heap.the_row heap_laws.the_row_laws ghosts) ! a z.0.4.1.0 (λ h ea fits.
    -- [the heap's handle; nothing; the block; the tokens]
    let w : Val = alone (block_ptr b o) in let us : z.0.4.0 ≡ w ∷ [] = ws ∙ ap (λ (p : Ptr). alone p ∷ []) e in
    suffices ! (Run (w ∷ h ∷ [])) (subst (λ (ss : List Val). ent 𝓤 (Run (w ∷ h ∷ [])) (Run ss)) (sym (λ i. us i ++ (ea i ++ []))) (id⊢ 𝓤 (Run (w ∷ h ∷ [])))) $
    enter ! 𝓣.C 𝓣.Λ fn (w ∷ h ∷ []) Post $ alloc_all ! (λ l. pass_all ! refl ((tt, (tt, tt)), (fits, tt)) $
    sets ! (of_opd ! (get_in ! (fld ! refl (stop !)) (sub ! 0 refl (whole !)))) refl (tt, tt) $ sets ! (of_opd ! (get ! refl)) refl (tt, tt) $
    sets ! (agg ! (and_then ! (get ! refl) (and_then ! (get ! refl) (no_more !)))) refl (loose_good V.the_row heap.the_row heap_laws.the_row_laws ghosts b o h fits) $
    returns ! (look_at ! 0 refl) $ free_all ! refl $
    move ! (2 ∷ 0 ∷ []) $ loose_in V.the_row heap.the_row heap_laws.the_row_laws ghosts ! b o h a x $ nothing ! $ nothing ! $ fjoin ! $ nothing ! $ fjoin ! $ use0 𝓛 (raw (fact 𝓤 (first v.blocks ≡ Some x))) (fact_i 𝓤 (first v.blocks ≡ Some x) (emp 𝓤) one) $
    -- [the promise; what is left of the parameters; the result; nothing; the tokens; ..]
    keep ! (4 ∷ 1 ∷ 2 ∷ 0 ∷ []) $ by ! (leaves 𝓛 f.ended stayed c z (both (vptr b o) h) (record { at = block_ptr b o; alloc = a; value = x }) (tt, (tt, tt)) (tt, (tt, tt))))))))))
