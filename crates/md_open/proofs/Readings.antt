-- What is read of a whole text is what it spells.
use Rattle.std.proofs.Common.{◌≡◌, ℕ, ◌+◌, ◌<◌, ◌≤◌, true, false, List, [], ◌∷◌, ◌++◌, Ok, Err, length, refl, sym, ap, subst, ◌∙◌, arith, length-append}
use Rattle.std.proofs.lemmas.List.Elements.{All-nil}
use Rattle.std.proofs.lemmas.List.{append_cancel_right}
use Rattle.std.specs.Prelude.{◌&&◌}
use Rattle.std.specs.List.{list_all}
use Rattle.rtl_word.specs.Words.{IsWordSize}
use Rattle.rtl_tree.specs.declared.c_names.Names.{Names}
use Rattle.rtl_tree.specs.Names.{AreNames}
use Rattle.rtl_tree.specs.Trees.{Tree}
use Rattle.rtl_spelling.specs.declared.signs.Sign.TheVariants as sign
use Rattle.rtl_spelling.specs.Holes.{Open}
use Rattle.rtl_spelling.specs.Tokens.{Token, Mark, spelling, Lexes, at_end, one_token}
use Rattle.rtl_spelling.specs.Spelling.{Context, IsContext, Placed, Said, IsSpelled, tokens_in}
use Rattle.rtl_spelling.specs.Reading.{Read, Trouble, ◌>>=◌, gives, tree, transfer, reading, answer, settled}
use Rattle.rtl_spelling.specs.Law.{IsEnded, Answers}
use Rattle.rtl_spelling.proofs.Automaton.{Stack, ATree, follow}
use Rattle.rtl_spelling.proofs.Traces.{Within, Trace, through, stopped, at_end as ends_early, too_deep, traced, run_alike}
use Rattle.rtl_spelling.proofs.Runs.{Run, spells_run}
use Rattle.rtl_spelling.proofs.Follow.{tree_follows, onward}
use Rattle.rtl_spelling.proofs.Sound.{Spelt, Gives, tree_is_spelt}
use Rattle.rtl_spelling.proofs.Begun.{within_from, within_to}
use Rattle.rtl_spelling.proofs.Complete.{reads_back}
use Rattle.rtl_spelling.proofs.Lexed.{at_most_one_lexed}
use Rattle.rtl_spelling.proofs.Answered.{reading_answers, spelled_is_read}
use Rattle.rtl_text.specs.Seen.{reading_context}
use Rattle.rtl_token.proofs.Longest.{some_bytes}
use Rattle.md_text.proofs.FormTexts.{spelled_once}
use Rattle.md_text.specs.Forms.{OpenTree, OpenTransfer, SpellsTree, SpellsMoves, context, open_from, hole_names, has_no_label, goal_has_no_label}
use Rattle.md_open.specs.Said.{adds}
use Rattle.md_open.specs.WholeTrees.{IsWholeTree}
use Rattle.md_open.proofs.HoleNames.{few_names}

no_names : AreNames []
no_names = record { names = All-nil _; different = λ i j d e l. absurd (omega (arith, l)); many = omega arith }

is_context : (w : ℕ) (names : List (List ℕ)) → IsWordSize w → IsContext (context w names)
is_context w names h = record { size = h; objects = no_names; functions = no_names; apart = λ name c d. absurd (omega (arith, c.1)) }

-- transfers

read_of : (c : Context) (ts : List Token) (ms : List Said) (r : Read (List Said)) → transfer c 31 ts ≡ r → adds [] r ≡ Ok ms → reading c ts ≡ Ok ms
read_of c ts ms (Ok x) e h = ap (answer c ts) e ∙ h
read_of c ts ms (Err t) e h = absurd (let no : Err t ≡ Ok ms → ⊥ = λ q. cc in no h)

read_spelled : (c : Context) (ts : List Token) (ms : List Said) → IsContext c → IsEnded ts → reading c ts ≡ Ok ms → IsSpelled c ms ts
read_spelled c ts ms k e h = subst (Answers c ts) h (reading_answers c k ts e)

pub moves_spelled : (c : Context) (w : ℕ) (names : List (List ℕ)) (ts : List Token) (ms : List Said) → IsWordSize w → c ≡ context w names → IsEnded ts → adds [] (transfer c 31 ts) ≡ Ok ms → IsSpelled (context w names) ms ts
moves_spelled c w names ts ms size same e h =
    let d : Context = context w names in
    let P : Context → Type 0 = λ c. adds [] (transfer c 31 ts) ≡ Ok ms in
    read_spelled d ts ms (is_context w names size) e (read_of d ts ms (transfer d 31 ts) refl (subst P same h))

unread : (c : Context) (ts : List Token) (ms : List Said) (t : Trouble) (r : Read (List Said)) → transfer c 31 ts ≡ r → adds [] r ≡ Err t → reading c ts ≡ Ok ms → ⊥
unread c ts ms t (Ok x) e h k = let no : Ok x.0 ≡ Err t → ⊥ = λ q. cc in no h
unread c ts ms t (Err u) e h k = let no : Err (settled c ts u) ≡ Ok ms → ⊥ = λ q. cc in no (sym (ap (answer c ts) e) ∙ k)

pub moves_refused : (c : Context) (w : ℕ) (names : List (List ℕ)) (ts : List Token) (t : Trouble) → IsWordSize w → c ≡ context w names → adds [] (transfer c 31 ts) ≡ Err t → (ms : List Said) → IsSpelled (context w names) ms ts → ⊥
moves_refused c w names ts t size same h ms s =
    let d : Context = context w names in
    let P : Context → Type 0 = λ c. adds [] (transfer c 31 ts) ≡ Err t in
    unread d ts ms t (transfer d 31 ts) refl (subst P same h) (spelled_is_read d (is_context w names size) ms ts s)

-- trees

abbrev tree_stack : Stack
tree_stack = ATree 1 ∷ []

record Passed (c : Context) (ts us : List Token) : Type 0 where
  placed : List Placed
  split : ts ≡ tokens_in placed ++ us
  run : Run c tree_stack placed []
  within : Within 32 placed

abbrev rest_in : Read (Unit {0}) → List Token
rest_in (Ok x) = x.1
rest_in (Err e) = []

passed_of : (c : Context) (ts us : List Token) (a : Read (Unit {0})) → Trace c 32 tree_stack ts a → a ≡ gives tt us → Passed c ts us
passed_of c ts us _ (through ps vs split run within) e = record { placed = ps; split = split ∙ ap (λ l. tokens_in ps ++ l) (ap rest_in e); run = run; within = within }
passed_of c ts us _ (stopped ps x r t vs split run within none) e = absurd cc
passed_of c ts us _ (ends_early ps x r split run within) e = absurd cc
passed_of c ts us _ (too_deep ps x r new d t vs split run within goes under) e = absurd cc

tree_passed : (c : Context) (k : IsContext c) (ts us : List Token) (t : Tree) → tree c 32 ts ≡ gives t us → Passed c ts us
tree_passed c k ts us t e =
    let follows : follow c 32 tree_stack ts ≡ gives tt us = (tree_follows c 32 32 1 refl).is [] ts ∙ ap (λ r. r >>= onward c 32 []) e in
    passed_of c ts us (follow c 32 tree_stack ts) (traced c 32 tree_stack ts) follows

spelt_of : (c : Context) (k : IsContext c) (ts us : List Token) (t : Tree) (r : Read Tree) → tree c 32 ts ≡ r → r ≡ gives t us → Spelt c k 1 ts t us
spelt_of c k ts us t r e h = let P : Read Tree → Type 0 = λ r. Gives (Spelt c k 1 ts) r in subst P (e ∙ h) (tree_is_spelt c k 32 1 ts)

tree_spelled : (c : Context) (k : IsContext c) (ts : List Token) (t : Tree) → tree c 32 ts ≡ gives t (Mark sign.End ∷ []) → IsWholeTree c t ts
tree_spelled c k ts t e =
    let us : List Token = Mark sign.End ∷ [] in
    let s = spelt_of c k ts us t (tree c 32 ts) refl e in
    let p = tree_passed c k ts us t e in
    let same : tokens_in p.placed ≡ tokens_in s.placed = append_cancel_right (tokens_in p.placed) (tokens_in s.placed) us (sym p.split ∙ s.split) in
    let placed : p.placed ≡ s.placed = run_alike c p.placed s.placed tree_stack [] [] p.run (spells_run c k 1 t s.placed s.spells []) same in
    record { placed = s.placed; split = s.split; spells = s.spells; within = within_from 32 s.placed (subst (Within 32) placed p.within) }

pub whole_tree : (c : Context) (w : ℕ) (names : List (List ℕ)) (ts us : List Token) (t : Tree) → IsWordSize w → c ≡ context w names → tree c 32 ts ≡ gives t us → us ≡ Mark sign.End ∷ [] → IsWholeTree (context w names) t ts
whole_tree c w names ts us t size same e f =
    let P : Context → Type 0 = λ c. tree c 32 ts ≡ gives t us in
    tree_spelled (context w names) (is_context w names size) ts t (subst P same e ∙ ap (gives t) f)

whole_reads : (c : Context) (k : IsContext c) (ts : List Token) (t : Tree) → IsWholeTree c t ts → tree c 32 ts ≡ gives t (Mark sign.End ∷ [])
whole_reads c k ts t h =
    ap (tree c 32) h.split ∙ reads_back c k 32 1 t h.placed h.spells 32 refl (within_to 32 h.placed h.within) (Mark sign.End ∷ [])

abbrev rest_read : Read Tree → List Token
rest_read (Ok x) = x.1
rest_read (Err e) = []

pub other_rest : (c : Context) (w : ℕ) (names : List (List ℕ)) (ts us : List Token) (t : Tree) → IsWordSize w → c ≡ context w names → tree c 32 ts ≡ gives t us → (us ≡ Mark sign.End ∷ [] → ⊥) → (u : Tree) → IsWholeTree (context w names) u ts → ⊥
other_rest c w names ts us t size same e other u h =
    let P : Context → Type 0 = λ c. tree c 32 ts ≡ gives t us in
    other (ap rest_read (sym (subst P same e) ∙ whole_reads (context w names) (is_context w names size) ts u h))

pub no_tree : (c : Context) (w : ℕ) (names : List (List ℕ)) (ts : List Token) (f : Trouble) → IsWordSize w → c ≡ context w names → tree c 32 ts ≡ Err f → (u : Tree) → IsWholeTree (context w names) u ts → ⊥
no_tree c w names ts f size same e u h =
    let P : Context → Type 0 = λ c. tree c 32 ts ≡ Err f in
    let no : Err f ≡ gives u (Mark sign.End ∷ []) → ⊥ = λ q. cc in
    no (sym (subst P same e) ∙ whole_reads (context w names) (is_context w names size) ts u h)

-- the context of a text

pub same_context : (w : ℕ) (n : Names) (names : List (List ℕ)) (holes : List Open) → n.objects ≡ [] → n.functions ≡ [] → holes ≡ open_from 0 names → reading_context w n holes ≡ context w names
same_context w n names holes o f h = λ i. record { width = w; objects = o i; functions = f i; holes = h i }

-- few holes stand in a short text

lexed_few : (text : List ℕ) (ts : List Token) → Lexes text ts → length ts ≤ 1 + length text
lexed_few _ _ at_end = omega arith
lexed_few _ _ (one_token t bs ts h l j) =
    let some : 0 < length (spelling t) = some_bytes t h in
    omega (arith, some, lexed_few bs ts j, length-append (spelling t) bs)

pub few_in : (text : List ℕ) (ts : List Token) (names : List (List ℕ)) → Lexes text ts → length text ≤ 255 → names ≡ hole_names ts → length names ≤ 256
few_in text ts names l s e = omega (arith, lexed_few text ts l, s, ap length e, few_names ts)

-- texts

-- what another reading would spell
meant_alike : (w : ℕ) (text : List ℕ) (ts : List Token) (names : List (List ℕ)) (t : OpenTransfer) → Lexes text ts → names ≡ hole_names ts → SpellsMoves w text t → IsSpelled (context w names) t.moves ts
meant_alike w text ts names t l e h =
    let same : h.tokens ≡ ts = at_most_one_lexed text h.tokens ts h.lexes l in
    let named : t.names ≡ names = h.names ∙ ap hole_names same ∙ sym e in
    let P : List Token → Type 0 = λ us. IsSpelled (context w t.names) t.moves us in
    let Q : List (List ℕ) → Type 0 = λ ns. IsSpelled (context w ns) t.moves ts in
    subst Q named (subst P same h.spelled)

pub not_spelled : (w : ℕ) (text : List ℕ) (ts : List Token) (names : List (List ℕ)) → Lexes text ts → names ≡ hole_names ts → ((ms : List Said) → IsSpelled (context w names) ms ts → ⊥) → (t : OpenTransfer) → SpellsMoves w text t → ⊥
not_spelled w text ts names l e none t h = none t.moves (meant_alike w text ts names t l e h)

pub labelled : (w : ℕ) (text : List ℕ) (ts : List Token) (names : List (List ℕ)) (ms : List Said) → IsWordSize w → Lexes text ts → names ≡ hole_names ts → IsSpelled (context w names) ms ts
    → list_all (λ m. goal_has_no_label m.to && has_no_label m.value) ms ≡ false → (t : OpenTransfer) → SpellsMoves w text t → ⊥
labelled w text ts names ms size l e s n t h =
    let same : t.moves ≡ ms = spelled_once w names ts t.moves ms size (meant_alike w text ts names t l e h) s in
    let all : list_all (λ m. goal_has_no_label m.to && has_no_label m.value) ms ≡ true = ap (list_all (λ m. goal_has_no_label m.to && has_no_label m.value)) (sym same) ∙ h.no_label in
    let no : true ≡ false → ⊥ = λ q. cc in
    no (sym all ∙ n)

tree_alike : (w : ℕ) (text : List ℕ) (ts : List Token) (names : List (List ℕ)) (t : OpenTree) → Lexes text ts → names ≡ hole_names ts → SpellsTree w text t → IsWholeTree (context w names) t.tree ts
tree_alike w text ts names t l e h =
    let same : h.tokens ≡ ts = at_most_one_lexed text h.tokens ts h.lexes l in
    let named : t.names ≡ names = h.names ∙ ap hole_names same ∙ sym e in
    let whole : IsWholeTree (context w t.names) t.tree h.tokens = record { placed = h.placed; split = h.split; spells = h.spells; within = h.within } in
    let P : List Token → Type 0 = λ us. IsWholeTree (context w t.names) t.tree us in
    let Q : List (List ℕ) → Type 0 = λ ns. IsWholeTree (context w ns) t.tree ts in
    subst Q named (subst P same whole)

pub tree_not_spelled : (w : ℕ) (text : List ℕ) (ts : List Token) (names : List (List ℕ)) → Lexes text ts → names ≡ hole_names ts → ((t : Tree) → IsWholeTree (context w names) t ts → ⊥) → (t : OpenTree) → SpellsTree w text t → ⊥
tree_not_spelled w text ts names l e none t h = none t.tree (tree_alike w text ts names t l e h)

abbrev tree_in : Read Tree → Tree → Tree
tree_in (Ok x) t = x.0
tree_in (Err f) t = t

pub tree_labelled : (w : ℕ) (text : List ℕ) (ts : List Token) (names : List (List ℕ)) (u : Tree) → IsWordSize w → Lexes text ts → names ≡ hole_names ts → IsWholeTree (context w names) u ts → has_no_label u ≡ false
    → (t : OpenTree) → SpellsTree w text t → ⊥
tree_labelled w text ts names u size l e s n t h =
    let k : IsContext (context w names) = is_context w names size in
    let reads = sym (whole_reads (context w names) k ts t.tree (tree_alike w text ts names t l e h)) ∙ whole_reads (context w names) k ts u s in
    let same : t.tree ≡ u = ap (λ r. tree_in r u) reads in
    let no : true ≡ false → ⊥ = λ q. cc in
    no (sym h.no_label ∙ ap has_no_label same ∙ n)

pub at_slices : (w : ℕ) (names others : List (List ℕ)) (ts us : List Token) (ms : List Said) → names ≡ others → ts ≡ us → IsSpelled (context w names) ms ts → IsSpelled (context w others) ms us
at_slices w names others ts us ms e f s =
    let P : List Token → Type 0 = λ ts. IsSpelled (context w names) ms ts in
    let Q : List (List ℕ) → Type 0 = λ ns. IsSpelled (context w ns) ms us in
    subst Q e (subst P f s)

pub tree_at_slices : (w : ℕ) (names others : List (List ℕ)) (ts us : List Token) (t : Tree) → names ≡ others → ts ≡ us → IsWholeTree (context w names) t ts → IsWholeTree (context w others) t us
tree_at_slices w names others ts us t e f s =
    let P : List Token → Type 0 = λ ts. IsWholeTree (context w names) t ts in
    let Q : List (List ℕ) → Type 0 = λ ns. IsWholeTree (context w ns) t us in
    subst Q e (subst P f s)

pub no_end : {A : Type 0} → false ≡ true → A
no_end e = let no : false ≡ true → ⊥ = λ q. cc in absurd (no e)
