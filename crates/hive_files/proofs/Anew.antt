-- Files that are made anew, call by call.
use Rattle.std.proofs.Common.{◌≡◌, ℕ, ◌-◌, List, [], ◌∷◌, ◌++◌, length, replicate, refl, sym, ap, ◌∙◌, arith, length-append}
use Rattle.std.proofs.lemmas.List.{take_all, length-replicate}
use Rattle.base_block.specs.Layout.{zeros}
use Rattle.disk_model.specs.FileState.{FileState, at_rest, resized, Cuts, Writes, Syncs}
use Rattle.disk_model.specs.Call.{Passes, KeepsOthers}
use Rattle.disk_model.proofs.Put.{length-resized}
use Rattle.disk_model.proofs.Leaves.{put_end}
use Rattle.hive_files.specs.Frames.{TouchesOwnFiles}
use Rattle.hive_files.proofs.Frames.{extends_on}

-- ---- what stays

pub stays_on : (own : ℕ → Type 0) (first mid last : ℕ → ℕ → FileState) (a b c : ℕ) → TouchesOwnFiles own first mid a b → TouchesOwnFiles own mid last b c → TouchesOwnFiles own first last a c
stays_on own first mid last a b c x y = record {
  time = extends_on first mid last a b c x.time y.time;
  others = λ f not. y.others f not ∙ x.others f not;
}

-- one call on one file
pub stays_once : (file : ℕ) (old new : ℕ → ℕ → FileState) (a b : ℕ) → Passes old new a b → KeepsOthers file (old a) (new b) → TouchesOwnFiles (λ f. f ≡ file) old new a b
stays_once file old new a b time keeps = record {
  time = record { later = omega (arith, time.clock); past = time.past };
  others = keeps;
}

-- no call at all
pub stays_here : (own : ℕ → Type 0) (states : ℕ → ℕ → FileState) (a : ℕ) → TouchesOwnFiles own states states a a
stays_here own states a = record { time = record { later = omega arith; past = λ k f le. refl }; others = λ f not. refl }

-- a part has more files
pub stays_wider : (own wide : ℕ → Type 0) (old new : ℕ → ℕ → FileState) (a b : ℕ) → ((f : ℕ) → own f → wide f) → TouchesOwnFiles own old new a b → TouchesOwnFiles wide old new a b
stays_wider own wide old new a b more x = record { time = x.time; others = λ f not. x.others f (λ is. not (more f is)) }

-- ---- what a read gives

none_left : (l : List ℕ) → length l ≡ 0 → l ≡ []
none_left [] e = refl
none_left (x ∷ xs) e = absurd (omega (arith, e))

pub cut_away : (old new : FileState) → Cuts 0 old new → new.seen ≡ []
cut_away old new cuts = ap (λ (s : FileState). s.seen) cuts ∙ none_left (resized old.seen 0) (length-resized old.seen 0)

pub appended : (from : ℕ) (chunk : List ℕ) (old new : FileState) → Writes from chunk old new → length old.seen ≡ from → new.seen ≡ old.seen ++ chunk
appended from chunk old new writes end = ap (λ (s : FileState). s.seen) writes ∙ put_end old.seen chunk from (sym end)

pub lengthened : (sector : List ℕ) (old new : FileState) → length sector ≡ 512 → old.seen ≡ sector → Cuts 4096 old new → new.seen ≡ sector ++ zeros 3584
unfolding zeros
lengthened sector old new long is cuts =
    let rest : 4096 - length sector ≡ 3584 = omega (arith, long) in
    ap (λ (s : FileState). s.seen) cuts ∙ ap (λ (l : List ℕ). resized l 4096) is
    ∙ ap (λ (l : List ℕ). l ++ replicate (4096 - length sector) 0) (take_all 4096 sector (omega (arith, long)))
    ∙ ap (λ (n : ℕ). sector ++ replicate n 0) rest

pub base_long : (sector : List ℕ) → length sector ≡ 512 → length (sector ++ zeros 3584) ≡ 4096
unfolding zeros
base_long sector long = omega (arith, long, length-append sector (replicate 3584 0), length-replicate {A = ℕ} 3584 0)

pub rested : (encoding : List ℕ) (old new : FileState) → old.seen ≡ encoding → Syncs old new → new ≡ at_rest encoding
rested encoding old new is syncs = syncs ∙ ap at_rest is
