-- Lists of names.
use Rattle.std.proofs.Common.{◌≢◌, ◌≡◌, ◌<◌, ◌≤◌, ◌++◌, ◌∷◌, ℕ, List, [], arith, get_or, length, min, sym, subst, take}
use Rattle.std.specs.Prelude.{Contains}
use Rattle.std.proofs.lemmas.List.{get_or-take, length-take}
use Rattle.std.proofs.lemmas.List.Elements.{All-append, All-cons, All-nil, All-take, Contains-get_or}
use Rattle.std.proofs.lemmas.List.Quantifiers.{all_pairs_push}
use Rattle.std.proofs.lemmas.Grind.{common_steps}
use Rattle.rtl_tree.specs.Names.{IsName, AreNames}

-- another name may be added at the end
pub AreNames-push : (ns : List (List ℕ)) (n : List ℕ) → AreNames ns → IsName n → ¬ Contains ns n → length ns < 65536 → AreNames (ns ++ n ∷ [])
AreNames-push ns n h name new room = record {
  names = All-append IsName ns (n ∷ []) h.names (All-cons IsName n [] name (All-nil IsName));
  different = all_pairs_push (λ l m. l ≢ m) ns n h.different (λ k d within e. new (subst (Contains ns) e (Contains-get_or ns k d within)));
  many = grind (arith, common_steps, room);
}

-- the first names are names
pub AreNames-take : (n : ℕ) (ns : List (List ℕ)) → AreNames ns → AreNames (take n ns)
AreNames-take n ns h = record {
  names = All-take IsName n ns h.names;
  different = λ i j d before within.
      let shorter : j < min n (length ns) = subst (λ m. j < m) (length-take n ns) within in
      let early : i < n = omega arith in
      let late : j < n = omega arith in
      let known : j < length ns = omega arith in
      subst (λ m. m ≢ get_or (take n ns) j d) (sym (get_or-take n ns i d early))
      (subst (λ m. get_or ns i d ≢ m) (sym (get_or-take n ns j d late)) (h.different i j d before known));
  many = let fewer : length (take n ns) ≡ min n (length ns) = length-take n ns in
      let bound : length ns ≤ 65536 = h.many in
      omega arith;
}
