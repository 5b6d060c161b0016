-- An accepted description covers each required shape, and a table of its rows says by which one.
use Rattle.std.proofs.Common.{◌≡◌, ◌⊎◌, inl, inr, ℕ, zero, suc, ◌+◌, ◌-◌, ◌*◌, ◌/◌, ◌%◌, ◌<◌, ◌≤◌, Bool, true, false, IsTrue, get_or, Option, Some, None, refl, subst, ap, arith, ◌∙◌}
use Rattle.std.specs.Prelude.{◌==◌, nat_lt}
use Rattle.std.proofs.lemmas.Bool.Decides.{nat_tests}
use Rattle.rtl_word.specs.declared.Rel.{Rel}
use Rattle.rtl_word.specs.declared.Rel.TheVariants.{Eq, Ne, Lt, Le, Gt, Ge, Ltu, Leu, Gtu, Geu}
use Rattle.rtl_tree.specs.declared.expressions.BinOp.{BinOp}
use Rattle.rtl_tree.specs.declared.expressions.BinOp.TheVariants.{Add, Sub, And, Or}
use Rattle.md_rows.specs.declared.description.RawDescription.{RawDescription}
use Rattle.md_shapes.specs.declared.table.Shape.{Shape}
use Rattle.md_shapes.specs.declared.patterns.Pattern.{Pattern}
use Rattle.md_shapes.specs.declared.patterns.Pattern.TheVariants.{Copy, SetNumber, SetSymbol, Load, Store, LoadByte, StoreByte, LoadHome, StoreHome, StoreTop, ReadStack, MoveStack, SetStack, Operate, Complement, Clear, Jump, Branch, Compare, BranchByFlag, Call, Return, SaveLink, RestoreLink, TakeInput, PutOutput, Halt, ReadResult, SetResult, ExtendByte}
use Rattle.md_shapes.specs.Patterns.{pattern_of}
use Rattle.md_shapes.specs.Shapes.{plain, relations, shape_by}
use Rattle.md_check.specs.Accepted.{MissingShape, IsCovered, HasShape, has_link, is_required, shape}
use Rattle.md_check.specs.Checking.{IsChecked}
use Rattle.temp_shapes.specs.declared.rows.ShapeRows.{ShapeRows}
use Rattle.temp_shapes.specs.Rows.{IsRowOf, AreShapeRows, IsPatternCovered}
use Rattle.temp_shapes.proofs.Positions.{direct_at, comparing_at, flagged_at}
use Rattle.temp_laws.specs.Covered.{is_always, IsBranchByFlag, RequiredAreCovered}

abbrev Decided : Type 0 → Type 0
Decided P = P ⊎ (P → ⊥)

decided_by : (d : RawDescription) (s : Shape) (o : Option ℕ) → IsRowOf d s o → Decided (IsCovered d s)
decided_by d s (Some k) h = inl (record { at = k; row = h.0; has = h.1; covers = h.2 })
decided_by d s None h = inr h

-- whether a shape is covered is decided by the table
decided : (d : RawDescription) (t : ShapeRows) (s : Shape) (i : ℕ) → AreShapeRows d t → i < 137 → shape_by i ≡ s → Decided (IsCovered d s)
decided d t s i h l e = subst (λ (x : Shape). Decided (IsCovered d x)) e (decided_by d (shape_by i) (get_or t.rows i None) (h.rows i l))

pattern_covered : (d : RawDescription) (s : Shape) (p : Pattern) → pattern_of s ≡ Some p → IsCovered d s → IsPatternCovered d p
pattern_covered d s p e c = record { at = c.at; row = c.row; has = c.has; covers = record { shape = s; pattern_is = e; covers = c.covers } }

-- what is required is not missing
not_missing : (w : ℕ) (d : RawDescription) (n : ℕ) → IsChecked w d → IsTrue (is_required d n) → (HasShape d n → ⊥) → ⊥
not_missing w d n c r h =
    c.accepted.whole MissingShape c.said.last n (record {
      misses = record {
        required = subst (λ (x : RawDescription). IsTrue (is_required x n)) c.normal r;
        missing = subst (λ (x : RawDescription). HasShape x n → ⊥) c.normal h;
      };
      last = refl;
    })

stable : {P : Type 0} → Decided P → ((P → ⊥) → ⊥) → P
stable (inl p) h = p
stable (inr n) h = absurd (h n)

-- tests of numbers

below : (m n : ℕ) → nat_lt m n ≡ true → m < n
below m n e = grind (arith, nat_tests, e)

differ : (m n : ℕ) → m == n ≡ false → m ≡ n → ⊥
differ m n e f = grind (arith, nat_tests, e, f)

clash : false ≡ true → ⊥
clash e = cc

relation_place : (r : Rel) → (k : ℕ) × (k < 10) × (get_or relations k Eq ≡ r)
relation_place Eq = (0, omega arith, refl)
relation_place Ne = (1, omega arith, refl)
relation_place Lt = (2, omega arith, refl)
relation_place Le = (3, omega arith, refl)
relation_place Gt = (4, omega arith, refl)
relation_place Ge = (5, omega arith, refl)
relation_place Ltu = (6, omega arith, refl)
relation_place Leu = (7, omega arith, refl)
relation_place Gtu = (8, omega arith, refl)
relation_place Geu = (9, omega arith, refl)

-- the least of n numbers that has a property, or none
searched : (P : ℕ → Type 0) → ((j : ℕ) → j < 8 → Decided (P j)) → (n : ℕ) → n ≤ 8 → ((j : ℕ) × (j < n) × P j) ⊎ ((j : ℕ) → j < n → P j → ⊥)
searched P dec zero l = inr (λ j k p. omega (arith, k))
searched P dec (suc n) l = elim (searched P dec n (omega (arith, l))) [
  | inl x ↦ inl (x.0, omega (arith, x.1), x.2)
  | inr before ↦ elim (dec n (omega (arith, l))) [
    | inl p ↦ inl (n, omega arith, p)
    | inr never ↦ inr (λ j k p. elim (last j n k) [ inl m ↦ before j m p | inr e ↦ never (subst P e p) ])
  ]
]
  where
    last : (j m : ℕ) → j < suc m → (j < m) ⊎ (j ≡ m)
    last j m k = by (nat_lt j m) refl
      where
        by : (b : Bool) → nat_lt j m ≡ b → (j < m) ⊎ (j ≡ m)
        by true e = inl (grind (arith, nat_tests, e))
        by false e = inr (grind (arith, nat_tests, e, k))

both_decided : (P Q : Type 0) → Decided P → Decided Q → Decided (P × Q)
both_decided P Q (inl p) (inl q) = inl (p, q)
both_decided P Q (inl p) (inr n) = inr (λ x. n x.1)
both_decided P Q (inr n) d = inr (λ x. n x.0)

module _ (w : ℕ) (d : RawDescription) (t : ShapeRows) (c : IsChecked w d) (h : AreShapeRows d t) where
  -- the shape of a number, at its place in the list
  plain_at : (k n : ℕ) (p : Pattern) → nat_lt k 137 ≡ true → shape_by k ≡ plain n → n == 18 ≡ false → n == 20 ≡ false → IsTrue (is_required d n)
      → pattern_of (plain n) ≡ Some p → IsPatternCovered d p
  plain_at k n p l is a b r e =
      pattern_covered d (plain n) p e (stable (decided d t (plain n) k h (below k 137 l) is)
      (λ missing. not_missing w d n c r (λ s. missing (s.other (differ n 18 a) (differ n 20 b)))))

  operator_covered : (o : BinOp) → is_always (has_link d) (Operate o) ≡ true → IsPatternCovered d (Operate o)
  operator_covered Add e = plain_at 13 14 (Operate Add) refl refl refl refl refl refl
  operator_covered Sub e = plain_at 14 15 (Operate Sub) refl refl refl refl refl refl
  operator_covered Or e = plain_at 15 16 (Operate Or) refl refl refl refl refl refl
  operator_covered _ e = absurd (clash e)

  always_covered : (p : Pattern) → is_always (has_link d) p ≡ true → IsPatternCovered d p
  always_covered Copy e = plain_at 0 1 Copy refl refl refl refl refl refl
  always_covered SetNumber e = plain_at 1 2 SetNumber refl refl refl refl refl refl
  always_covered SetSymbol e = plain_at 2 3 SetSymbol refl refl refl refl refl refl
  always_covered Load e = plain_at 3 4 Load refl refl refl refl refl refl
  always_covered Store e = plain_at 4 5 Store refl refl refl refl refl refl
  always_covered LoadByte e = plain_at 5 6 LoadByte refl refl refl refl refl refl
  always_covered StoreByte e = plain_at 6 7 StoreByte refl refl refl refl refl refl
  always_covered LoadHome e = plain_at 7 8 LoadHome refl refl refl refl refl refl
  always_covered StoreHome e = plain_at 8 9 StoreHome refl refl refl refl refl refl
  always_covered StoreTop e = plain_at 9 10 StoreTop refl refl refl refl refl refl
  always_covered ReadStack e = plain_at 10 11 ReadStack refl refl refl refl refl refl
  always_covered MoveStack e = plain_at 11 12 MoveStack refl refl refl refl refl refl
  always_covered SetStack e = plain_at 12 13 SetStack refl refl refl refl refl refl
  always_covered (Operate o) e = operator_covered o e
  always_covered Complement e = plain_at 16 17 Complement refl refl refl refl refl refl
  always_covered Clear e = absurd (clash e)
  always_covered Jump e = plain_at 19 19 Jump refl refl refl refl refl refl
  always_covered (Branch r) e = absurd (clash e)
  always_covered (Compare j) e = absurd (clash e)
  always_covered (BranchByFlag r j) e = absurd (clash e)
  always_covered Call e = plain_at 118 21 Call refl refl refl refl refl refl
  always_covered Return e = plain_at 119 22 Return refl refl refl refl refl refl
  always_covered SaveLink e = plain_at 120 23 SaveLink refl refl refl refl e refl
  always_covered RestoreLink e = plain_at 121 24 RestoreLink refl refl refl refl e refl
  always_covered TakeInput e = plain_at 122 25 TakeInput refl refl refl refl refl refl
  always_covered PutOutput e = plain_at 123 26 PutOutput refl refl refl refl refl refl
  always_covered Halt e = plain_at 124 27 Halt refl refl refl refl refl refl
  always_covered ReadResult e = plain_at 125 28 ReadResult refl refl refl refl refl refl
  always_covered SetResult e = plain_at 126 29 SetResult refl refl refl refl refl refl
  always_covered ExtendByte e = absurd (clash e)

  clearing_covered : IsPatternCovered d (Operate And) ⊎ IsPatternCovered d Clear
  clearing_covered = elim (decided d t (plain 18) 17 h (omega arith) refl) [
    | inl a ↦ inl (pattern_covered d (plain 18) (Operate And) refl a)
    | inr m ↦ elim (decided d t (shape 18 1 Eq 0) 18 h (omega arith) refl) [
      | inl b ↦ inr (pattern_covered d (shape 18 1 Eq 0) Clear refl b)
      | inr n ↦ absurd (not_missing w d 18 c refl (λ s. elim (s.clearing refl) [ inl x ↦ m x | inr y ↦ n y ]))
    ]
  ]

  shape_is : (f : ℕ) (r q : Rel) (j k : ℕ) → r ≡ q → j ≡ k → shape 20 f r j ≡ shape 20 f q k
  shape_is f r q j k e g = ap (λ (x : Rel). shape 20 f x j) e ∙ ap (λ (x : ℕ). shape 20 f q x) g

  direct : (r : Rel) → Decided (IsCovered d (shape 20 0 r 0))
  direct r =
      let k = relation_place r in
      let same : 20 + k.0 - 20 ≡ k.0 = omega arith in
      decided d t (shape 20 0 r 0) (20 + k.0) h (omega (arith, k.1))
      (direct_at (20 + k.0) (omega arith) (omega (arith, k.1)) ∙ shape_is 0 _ r 0 0 (ap (λ (n : ℕ). get_or relations n Eq) same ∙ k.2) refl)

  comparing : (j : ℕ) → j < 8 → Decided (IsCovered d (shape 20 1 Eq j))
  comparing j l =
      decided d t (shape 20 1 Eq j) (30 + j) h (omega (arith, l))
      (comparing_at (30 + j) (omega arith) (omega (arith, l)) ∙ shape_is 1 Eq Eq _ j refl (omega arith))

  flagged : (r : Rel) (j : ℕ) → j < 8 → Decided (IsCovered d (shape 20 2 r j))
  flagged r j l =
      let k = relation_place r in
      let row : (38 + 8 * k.0 + j - 38) / 8 ≡ k.0 = omega (arith, l) in
      let rest : (38 + 8 * k.0 + j - 38) % 8 ≡ j = omega (arith, l) in
      decided d t (shape 20 2 r j) (38 + 8 * k.0 + j) h (omega (arith, l, k.1))
      (flagged_at (38 + 8 * k.0 + j) (omega arith) (omega (arith, l, k.1)) ∙ shape_is 2 _ r _ j (ap (λ (n : ℕ). get_or relations n Eq) row ∙ k.2) rest)

  branching_covered : (r : Rel) → IsPatternCovered d (Branch r) ⊎ IsBranchByFlag d r
  branching_covered r = elim (direct r) [
    | inl a ↦ inl (pattern_covered d (shape 20 0 r 0) (Branch r) refl a)
    | inr m ↦ elim (searched (λ j. IsCovered d (shape 20 1 Eq j) × IsCovered d (shape 20 2 r j))
        (λ j l. both_decided _ _ (comparing j l) (flagged r j l)) 8 (omega arith)) [
          | inl x ↦ inr (record {
            flag = x.0;
            is_flag = x.1;
            compares = pattern_covered d (shape 20 1 Eq x.0) (Compare x.0) refl x.2.0;
            jumps = pattern_covered d (shape 20 2 r x.0) (BranchByFlag r x.0) refl x.2.1;
          })
          | inr n ↦ absurd (not_missing w d 20 c refl (λ s. elim (s.branching refl r) [ inl x ↦ m x | inr y ↦ n y.flag y.is_flag (y.compares, y.jumps) ]))
        ]
  ]

pub required_covered : RequiredAreCovered
required_covered w d t c h = record {
  always = always_covered w d t c h;
  clearing = clearing_covered w d t c h;
  branching = branching_covered w d t c h;
}
