-- What is parsed of the words of a request is what the grammar says.
use Rattle.std.proofs.Common.{◌≡◌, ℕ, ◌-◌, ◌^◌, ◌<◌, ◌≤◌, cond, List, [], ◌∷◌, Option, Some, sym, ◌∙◌, ap, subst, arith, inl, inr}
use Rattle.std.specs.Prelude.{codes}
use Rattle.std.specs.Option.{option_map, option_and_then}
use Rattle.std.specs.Str.{bytes_eq}
use Rattle.std.proofs.lemmas.Option.{none-some}
use Rattle.std.proofs.lemmas.Slice.Eq.{bytes_eq-Decides}
use Rattle.script_syntax.specs.Words.{number_of, data_of, name_of, key_ref_of}
use Rattle.script_syntax.specs.Lines.{one_of, two_of, four_of, key_ref_in, named_key_ref, named_in, set_request, request_with, request_of_words}
use Rattle.script_syntax.specs.Grammar.{IsKeyRef, IsName, VerbAndKeyRef, VerbKeyRefAndName, RequestWords}
use Rattle.script_syntax.specs.declared.line.KeyRef.{KeyRef}
use Rattle.script_syntax.specs.declared.line.Request.{Request}
use Rattle.script_syntax.specs.declared.line.Request.TheVariants.{Create, Delete, Set, Unset, Get, Keys, Values, Info}
use Rattle.word_syntax.proofs.Cuts.{is_or_not}
use Rattle.script_syntax.proofs.ParsedUnits.{map_some, then_some}
use Rattle.script_syntax.proofs.ParsedWords.{read_number, parsed_number, read_place, parsed_place, read_name, parsed_name, read_data, parsed_data}

read_named : (key_ref named : List ℕ) (at : KeyRef) (name : List ℕ) → IsKeyRef key_ref at → IsName named name → named_key_ref (key_ref, named) ≡ Some (at, name)
read_named key_ref named at name p n =
    ap (option_and_then (λ a. option_map (λ units. (a, units)) (name_of named))) (read_place key_ref at p) ∙ ap (option_map (λ units. (at, units))) (read_name named name n)

-- a request by the grammar is parsed
pub read_request : (said : List (List ℕ)) (request : Request) → RequestWords request said → request_of_words said ≡ Some request
read_request said (Create at) (key_ref, e, p) = ap request_of_words e ∙ ap (option_map (λ a. Create a)) (read_place key_ref at p)
read_request said (Delete at) (key_ref, e, p) = ap request_of_words e ∙ ap (option_map (λ a. Delete a)) (read_place key_ref at p)
read_request said (Set at name kind bytes) (key_ref, named, number, digits, e, p, n, d, most, b) =
    let within : kind ≤ 2 ^ 32 - 1 = omega (arith, most) in
    ap request_of_words e
    ∙ ap (option_and_then (λ a. option_and_then (λ units. option_and_then (λ k. option_map (λ contents. Set a units k contents) (data_of digits)) (number_of (2 ^ 32 - 1) number)) (name_of named))) (read_place key_ref at p)
    ∙ ap (option_and_then (λ units. option_and_then (λ k. option_map (λ contents. Set at units k contents) (data_of digits)) (number_of (2 ^ 32 - 1) number))) (read_name named name n)
    ∙ ap (option_and_then (λ k. option_map (λ contents. Set at name k contents) (data_of digits))) (read_number (2 ^ 32 - 1) number kind d within)
    ∙ ap (option_map (λ contents. Set at name kind contents)) (read_data digits bytes b)
read_request said (Unset at name) (key_ref, named, e, p, n) = ap request_of_words e ∙ ap (option_map (λ found. Unset found.0 found.1)) (read_named key_ref named at name p n)
read_request said (Get at name) (key_ref, named, e, p, n) = ap request_of_words e ∙ ap (option_map (λ found. Get found.0 found.1)) (read_named key_ref named at name p n)
read_request said (Keys at) (key_ref, e, p) = ap request_of_words e ∙ ap (option_map (λ a. Keys a)) (read_place key_ref at p)
read_request said (Values at) (key_ref, e, p) = ap request_of_words e ∙ ap (option_map (λ a. Values a)) (read_place key_ref at p)
read_request said (Info at) (key_ref, e, p) = ap request_of_words e ∙ ap (option_map (λ a. Info a)) (read_place key_ref at p)

same_found : {A : Type 0} (x y : A) → Some x ≡ Some y → x ≡ y
same_found x y h = cc

pub one_word : (args : List (List ℕ)) (a : List ℕ) → one_of args ≡ Some a → args ≡ a ∷ []
one_word [] a e = absurd (none-some a e)
one_word (b ∷ []) a e = cc
one_word (b ∷ c ∷ rest) a e = absurd (none-some a e)

pub two_words : (args : List (List ℕ)) (found : List ℕ × List ℕ) → two_of args ≡ Some found → args ≡ found.0 ∷ found.1 ∷ []
two_words [] found e = absurd (none-some found e)
two_words (b ∷ []) found e = absurd (none-some found e)
two_words (b ∷ c ∷ []) found e = ap (λ f. f.0 ∷ f.1 ∷ []) (same_found (b, c) found e)
two_words (b ∷ c ∷ d ∷ rest) found e = absurd (none-some found e)

four_words : (args : List (List ℕ)) (found : List ℕ × List ℕ × List ℕ × List ℕ) → four_of args ≡ Some found → args ≡ found.0 ∷ found.1 ∷ found.2 ∷ found.3 ∷ []
four_words [] found e = absurd (none-some found e)
four_words (a ∷ []) found e = absurd (none-some found e)
four_words (a ∷ b ∷ []) found e = absurd (none-some found e)
four_words (a ∷ b ∷ c ∷ []) found e = absurd (none-some found e)
four_words (a ∷ b ∷ c ∷ d ∷ []) found e = ap (λ f. f.0 ∷ f.1 ∷ f.2 ∷ f.3 ∷ []) (same_found (a, b, c, d) found e)
four_words (a ∷ b ∷ c ∷ d ∷ f ∷ rest) found e = absurd (none-some found e)

-- a request that asks for a key alone
of_place : (verb : List ℕ) (made : KeyRef → Request) → ((at : KeyRef) (said : List (List ℕ)) → VerbAndKeyRef verb at said → RequestWords (made at) said) → (args : List (List ℕ)) (request : Request) → option_map made (key_ref_in args) ≡ Some request → RequestWords request (verb ∷ args)
of_place verb made shape args request e =
    let at = map_some made (key_ref_in args) request e in
    let word = then_some key_ref_of (one_of args) at.0 at.1 in
    subst (λ r. RequestWords r (verb ∷ args)) at.2
    (shape at.0 (verb ∷ args) (word.0, ap (λ ws. verb ∷ ws) (one_word args word.0 word.1), parsed_place word.0 at.0 word.2))

-- a request that asks for a key and a name
of_name : (verb : List ℕ) (made : KeyRef × List ℕ → Request) → ((at : KeyRef) (name : List ℕ) (said : List (List ℕ)) → VerbKeyRefAndName verb at name said → RequestWords (made (at, name)) said) → (args : List (List ℕ)) (request : Request) → option_map made (named_in args) ≡ Some request → RequestWords request (verb ∷ args)
of_name verb made shape args request e =
    let found = map_some made (named_in args) request e in
    let said = then_some named_key_ref (two_of args) found.0 found.1 in
    let key_ref = said.0.0 in
    let named = said.0.1 in
    let at = then_some (λ a. option_map (λ units. (a, units)) (name_of named)) (key_ref_of key_ref) found.0 said.2 in
    let name = map_some (λ units. (at.0, units)) (name_of named) found.0 at.2 in
    subst (λ r. RequestWords r (verb ∷ args)) (ap made name.2 ∙ found.2)
    (shape at.0 name.0 (verb ∷ args) (key_ref, named, ap (λ ws. verb ∷ ws) (two_words args said.0 said.1), parsed_place key_ref at.0 at.1, parsed_name named name.0 name.1))

of_set : (args : List (List ℕ)) (request : Request) → option_and_then set_request (four_of args) ≡ Some request → RequestWords request (codes "set" ∷ args)
of_set args request e =
    let found = then_some set_request (four_of args) request e in
    let key_ref = found.0.0 in
    let named = found.0.1 in
    let number = found.0.2 in
    let digits = found.0.3 in
    let at = then_some (λ a. option_and_then (λ units. option_and_then (λ k. option_map (λ contents. Set a units k contents) (data_of digits)) (number_of (2 ^ 32 - 1) number)) (name_of named)) (key_ref_of key_ref) request found.2 in
    let name = then_some (λ units. option_and_then (λ k. option_map (λ contents. Set at.0 units k contents) (data_of digits)) (number_of (2 ^ 32 - 1) number)) (name_of named) request at.2 in
    let kind = then_some (λ k. option_map (λ contents. Set at.0 name.0 k contents) (data_of digits)) (number_of (2 ^ 32 - 1) number) request name.2 in
    let contents = map_some (λ c. Set at.0 name.0 kind.0 c) (data_of digits) request kind.2 in
    let parsed = parsed_number (2 ^ 32 - 1) number kind.0 kind.1 in
    let within : kind.0 < 2 ^ 32 = omega (arith, parsed.1) in
    subst (λ r. RequestWords r (codes "set" ∷ args)) {x = Set at.0 name.0 kind.0 contents.0} contents.2
    (key_ref, named, number, digits, ap (λ ws. codes "set" ∷ ws) (four_words args found.0 found.1), parsed_place key_ref at.0 at.1, parsed_name named name.0 name.1, parsed.0, within, parsed_data digits contents.0 contents.1)

-- the first word is the one that is tested for, or the words are others
pub first_word : {X : Type 0} (Parsed : X → List (List ℕ) → Type 0) (verb text : List ℕ) (args : List (List ℕ)) (x : X) (this other : Option X) → (this ≡ Some x → Parsed x (text ∷ args)) → (other ≡ Some x → Parsed x (verb ∷ args)) → cond (bytes_eq verb text) this other ≡ Some x → Parsed x (verb ∷ args)
first_word Parsed verb text args x this other here further e = elim (is_or_not (bytes_eq verb text)) [
  | inl same ↦
      let equal = (bytes_eq-Decides verb text).0 same in
      subst (λ word. Parsed x (word ∷ args)) (sym equal) (here (sym (ap (λ test. cond test this other) same) ∙ e))
  | inr not_same ↦ further (sym (ap (λ test. cond test this other) not_same) ∙ e)
]

-- and one that is parsed is a request by the grammar
pub parsed_request : (verb : List ℕ) (args : List (List ℕ)) (request : Request) → request_with verb args ≡ Some request → RequestWords request (verb ∷ args)
parsed_request verb args request e =
    first_word RequestWords verb (codes "create") args request _ _ (of_place (codes "create") (λ at. Create at) (λ at said h. h) args request)
    (first_word RequestWords verb (codes "delete") args request _ _ (of_place (codes "delete") (λ at. Delete at) (λ at said h. h) args request)
    (first_word RequestWords verb (codes "set") args request _ _ (of_set args request)
    (first_word RequestWords verb (codes "unset") args request _ _ (of_name (codes "unset") (λ found. Unset found.0 found.1) (λ at name said h. h) args request)
    (first_word RequestWords verb (codes "get") args request _ _ (of_name (codes "get") (λ found. Get found.0 found.1) (λ at name said h. h) args request)
    (first_word RequestWords verb (codes "keys") args request _ _ (of_place (codes "keys") (λ at. Keys at) (λ at said h. h) args request)
    (first_word RequestWords verb (codes "values") args request _ _ (of_place (codes "values") (λ at. Values at) (λ at said h. h) args request)
    (first_word RequestWords verb (codes "info") args request _ _ (of_place (codes "info") (λ at. Info at) (λ at said h. h) args request)
    (λ none. absurd (none-some request none))))))))) e

pub parsed_request_words : (said : List (List ℕ)) (request : Request) → request_of_words said ≡ Some request → RequestWords request said
parsed_request_words [] request e = absurd (none-some request e)
parsed_request_words (verb ∷ args) request e = parsed_request verb args request e
