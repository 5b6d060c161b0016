-- A set of names, as one is added.
use Rattle.std.proofs.Common.{◌≡◌, ℕ, ◌+◌, Bool, true, false, not, cond, ◌||◌, if◌then◌else◌, List, [], ◌∷◌, ◌++◌, length, filter_map, Option, Some, None, refl, sym, ap, subst, ◌∙◌, arith, length-append}
use Rattle.std.specs.HashSet.{HashSet, contains_by, hash_set_len}
use Rattle.std.specs.List.{list_any, cons_option}
use Rattle.std.specs.Str.{bytes_eq}
use Rattle.std.proofs.lemmas.List.Folds.{list_any-append}
use Rattle.std.proofs.lemmas.Bool.Decides.{same_from_decides}
use Rattle.std.proofs.lemmas.Slice.Eq.{bytes_eq-Decides}
use denote.Ref.{Bor}
use Rattle.asm_token.specs.Tokens.{Token}
use Rattle.asm_program.specs.Places.{symbol_in, with_name, with_names}
use Rattle.asm_row.specs.Walk.{IsToken, IsEnd}
use Rattle.asm_faults.specs.Counts.{AreAdding, HoldsNames, with_some}

-- more names by one
by_added : (b : Bool) (names : List (List ℕ)) (name : List ℕ) (n m : ℕ) → n ≡ length names → m ≡ n + (if not b then 1 else 0) → m ≡ length (if b then names else names ++ name ∷ [])
by_added true names name n m e f = omega (arith, e, f)
by_added false names name n m e f = omega (arith, e, f, length-append names (name ∷ []))

or_false : (b c : Bool) → (b || (c || false)) ≡ cond c true b
or_false true true = refl
or_false true false = refl
or_false false true = refl
or_false false false = refl

-- what is found afterwards
found_after : (b c : Bool) (names : List (List ℕ)) (name q : List ℕ) → (c ≡ true → b ≡ list_any (bytes_eq q) names) → bytes_eq q name ≡ c
    → cond c true (list_any (bytes_eq q) names) ≡ list_any (bytes_eq q) (if b then names else names ++ name ∷ [])
found_after true true names name q same e = same refl
found_after true false names name q same e = refl
found_after false c names name q same e =
    sym (list_any-append (bytes_eq q) names (name ∷ []) ∙ ap (λ (x : Bool). list_any (bytes_eq q) names || (x || false)) e ∙ or_false (list_any (bytes_eq q) names) c)

symbols_more : (o : Option (List ℕ)) (names xs : List (List ℕ)) → with_names names (cons_option o xs) ≡ with_names (with_some names o) xs
symbols_more None names xs = refl
symbols_more (Some x) names xs = refl

module _ {S : Type 0} (names : List (List ℕ)) (name : List ℕ) (old new : HashSet (Bor (List ℕ)) S) (added : Bool) where
  -- a name that was put into the set
  pub put : HoldsNames names old → added ≡ not (contains_by (λ k. bytes_eq name k.now) old) → hash_set_len new ≡ hash_set_len old + (if added then 1 else 0)
      → ((q : List ℕ) → contains_by (λ k. bytes_eq q k.now) new ≡ cond (bytes_eq name q) true (contains_by (λ k. bytes_eq q k.now) old)) → HoldsNames (with_name names name) new
  put h a l u =
      record {
        many = by_added (list_any (bytes_eq name) names) names name (hash_set_len old) (hash_set_len new) h.many
            (l ∙ ap (λ (x : Bool). hash_set_len old + (if x then 1 else 0)) (a ∙ ap not (h.each name)));
        each = λ q.
            u q
            ∙ ap (λ (x : Bool). cond (bytes_eq name q) true x) (h.each q)
            ∙ found_after (list_any (bytes_eq name) names) (bytes_eq name q) names name q
            (λ e. ap (λ (x : List ℕ). list_any (bytes_eq x) names) ((bytes_eq-Decides name q).0 e)) (swapped q name);
      }
    where
      swapped : (x y : List ℕ) → bytes_eq x y ≡ bytes_eq y x
      swapped x y = same_from_decides (bytes_eq x y) (bytes_eq y x) (bytes_eq-Decides x y) ((λ e. sym ((bytes_eq-Decides y x).0 e)), λ e. (bytes_eq-Decides y x).1 (sym e))

module _ {S : Type 0} (ns : List (List ℕ)) (ts : List Token) (rest : List ℕ) (set : HashSet (Bor (List ℕ)) S) where
  pub adds_token : {R : Type 0} (t : Token) (o : Option (List ℕ)) (behind : List ℕ) (more : HashSet (Bor (List ℕ)) R) → AreAdding ns ts rest set → IsToken rest t behind → o ≡ symbol_in t
      → ((ms : List (List ℕ)) → HoldsNames ms set → HoldsNames (with_some ms o) more) → AreAdding ns ts behind more
  adds_token t o behind more a k e h =
      let p = k.back a.left a.line in
      record {
        now = with_some a.now o;
        left = p.others;
        holds = h a.now a.holds;
        line = p.line;
        same =
            a.same
            ∙ ap (λ (us : List Token). with_names a.now (filter_map symbol_in us)) p.are
            ∙ symbols_more (symbol_in t) a.now (filter_map symbol_in p.others)
            ∙ ap (λ (x : Option (List ℕ)). with_names (with_some a.now x) (filter_map symbol_in p.others)) (sym e);
      }

  pub adds_all : AreAdding ns ts rest set → IsEnd rest → HoldsNames (with_names ns (filter_map symbol_in ts)) set
  adds_all a e =
      subst (λ (ms : List (List ℕ)). HoldsNames ms set) (sym (a.same ∙ ap (λ (us : List Token). with_names a.now (filter_map symbol_in us)) (e.only a.left a.line))) a.holds
