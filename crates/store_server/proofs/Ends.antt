-- How the sessions of one client after another ended.
use Rattle.std.proofs.Common.{◌≡◌, ◌∷◌, ℕ, Bool, List, refl, sym, subst}
use Rattle.reg_tree.specs.Maps.{TreeMap}
use Rattle.commit_journal.specs.Store.{Store}
use Rattle.engine_invariant.specs.Engines.{EngineView}
use Rattle.ktm_calls.specs.Moments.{Sight}
use Rattle.store_server.specs.Visits.{ServesClient, ServesInTurn, ends_of_both}
use Rattle.store_server.specs.declared.session_ends.SessionEnds.{SessionEnds}
use Rattle.store_server.specs.declared.session_ends.SessionEnds.TheVariants.{Granted, Denied}

pub ends_assoc : (a b c : SessionEnds) → ends_of_both (ends_of_both a b) c ≡ ends_of_both a (ends_of_both b c)
ends_assoc Granted b c = refl
ends_assoc Denied b c = refl

pub ends_alone : (a : SessionEnds) → ends_of_both a Granted ≡ a
ends_alone Granted = refl
ends_alone Denied = refl

module _ (saves : Store → ℕ → List TreeMap → Type 0) (store : Store) (sole : Bool) (origin : EngineView) (trees : List TreeMap) (number hives : ℕ) where
  -- clients were served so, whose sessions and those of others before them ended so together
  abbrev pub HasServedAll : Sight → SessionEnds → Sight → SessionEnds → Type 0
  HasServedAll was before is ends = (visits : List Sight) × (others : SessionEnds) × ServesInTurn saves store sole origin trees number hives was visits is others × (ends ≡ ends_of_both before others)

  -- one client was served, and then others
  pub served_more : (was mid is : Sight) (before one both ends : SessionEnds) → ServesClient saves store sole origin trees number hives was mid one → both ≡ ends_of_both before one → HasServedAll mid both is ends → HasServedAll was before is ends
  served_more was mid is before one both ends serves are (visits, others, more, e) =
      (mid ∷ visits, ends_of_both one others, (one, others, serves, more, refl), subst (λ b. ends ≡ ends_of_both b others → ends ≡ ends_of_both before (ends_of_both one others)) (sym are) (λ x. subst (λ y. ends ≡ y) (ends_assoc before one others) x) e)
