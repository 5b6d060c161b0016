-- Some token fits two pieces exactly where the test says so.
use Rattle.std.proofs.Common.{◌≡◌, ◌⊎◌, ℕ, Bool, true, false, ◌&&◌, ◌||◌, ◌==◌, List, [], ◌∷◌, ℤ, pos, Option, Some, None, slice_get, inl, inr, refl, sym, subst, ap, arith, ◌∙◌}
use Rattle.std.specs.Prelude.{int_le}
use Rattle.std.proofs.Math.IntN.{negsuc}
use Rattle.std.proofs.lemmas.Bool.Decides.{nat_tests}
use Rattle.asm_token.specs.Tokens.{Token, Name as NameToken, Number as NumberToken, Mark as MarkToken}
use Rattle.md_rows.specs.declared.description.Register.{Register}
use Rattle.md_rows.specs.declared.row.Hole.{Hole}
use Rattle.md_rows.specs.declared.row.Hole.TheVariants.{Reg as RegHole, Num as NumHole, Sym as SymHole, Label as LabelHole}
use Rattle.md_rows.specs.declared.row.Piece.{Piece}
use Rattle.md_rows.specs.declared.row.Piece.TheVariants.{Name, Num, Byte, Hole as HolePiece}
use Rattle.md_rows.specs.Fits.{within}
use Rattle.md_text.specs.Rules.{is_block_label, is_reserved}
use Rattle.md_overlap.specs.Overlap.{IsNamed, is_symbol, FitsHole, FitsSome, FitsPiece, Meet}
use Rattle.md_overlap.specs.Premises.{IsOther, AreNames, IsInOrder, AreInOrder}
use Rattle.md_overlap.specs.Tests.{Shared, HolesShare, SomeShare, SomeTakes, Share}

both_of : (a b : Bool) → (a && b) ≡ true → (a ≡ true) × (b ≡ true)
both_of true b h = (refl, h)
both_of false b h = let q : false ≡ true = h in cc

and_of : (a b : Bool) → a ≡ true → b ≡ true → (a && b) ≡ true
and_of true b h k = k
and_of false b h k = h

or_first : (a b : Bool) → a ≡ true → (a || b) ≡ true
or_first true b h = refl
or_first false b h = let q : false ≡ true = h in cc

-- names of registers, symbols and labels

named_free : (rs : List Register) (c : ℕ) (n : List ℕ) → AreNames rs → IsNamed rs c n → is_reserved n ≡ false
named_free [] c n a h = absurd h
named_free (r ∷ rs) c n a h = elim h [
  | inl k ↦ subst (λ (m : List ℕ). is_reserved m ≡ false) k.1 a.0
  | inr k ↦ named_free rs c n a.2 k
]

symbol_reserved : (n : List ℕ) → is_symbol n ≡ true → is_reserved n ≡ true
symbol_reserved [] h = h
symbol_reserved (c ∷ cs) h = or_first (c == 95) (c == 46 || is_block_label (c ∷ cs)) h

last_of_three : (a b c : Bool) → c ≡ true → (a || (b || c)) ≡ true
last_of_three true b c h = refl
last_of_three false true c h = refl
last_of_three false false c h = h

block_reserved : (n : List ℕ) → is_block_label n ≡ true → is_reserved n ≡ true
block_reserved [] h = h
block_reserved (c ∷ cs) h = last_of_three (c == 95) (c == 46) (is_block_label (c ∷ cs)) h

either_of : (a b : Bool) → (a || b) ≡ true → (a ≡ true) ⊎ (b ≡ true)
either_of true b h = inl refl
either_of false b h = inr h

label_reserved : (n : List ℕ) → (is_symbol n || is_block_label n) ≡ true → is_reserved n ≡ true
label_reserved n h = elim (either_of (is_symbol n) (is_block_label n) h) [
  | inl k ↦ symbol_reserved n k
  | inr k ↦ block_reserved n k
]

apart : (b : Bool) → b ≡ true → b ≡ false → ⊥
apart b h k = let q : true ≡ false = sym h ∙ k in cc

-- registers of both classes

other_named : (rs : List Register) (c : ℕ) (n : List ℕ) → IsOther n rs → IsNamed rs c n → ⊥
other_named [] c n a h = h
other_named (r ∷ rs) c n a h = elim h [ inl k ↦ a.0 (sym k.1) | inr k ↦ other_named rs c n a.1 k ]

named_shared : (rs : List Register) (c d : ℕ) (n : List ℕ) → AreNames rs → IsNamed rs c n → IsNamed rs d n → Shared rs c d
named_shared [] c d n a h k = h
named_shared (r ∷ rs) c d n a h k = elim h [
  | inl x ↦ elim k [
    | inl y ↦ inl (x.0, y.0)
    | inr y ↦ absurd (other_named rs d n (subst (λ (m : List ℕ). IsOther m rs) x.1 a.1) y)
  ]
  | inr x ↦ elim k [
    | inl y ↦ absurd (other_named rs c n (subst (λ (m : List ℕ). IsOther m rs) y.1 a.1) x)
    | inr y ↦ inr (named_shared rs c d n a.2 x y)
  ]
]

record Both (rs : List Register) (c d : ℕ) : Type 0 where
  name : List ℕ
  left : IsNamed rs c name
  right : IsNamed rs d name

shared_name : (rs : List Register) (c d : ℕ) → Shared rs c d → Both rs c d
shared_name [] c d h = absurd h
shared_name (r ∷ rs) c d h = elim h [
  | inl k ↦ record { name = r.name; left = inl (k.0, refl); right = inl (k.1, refl) }
  | inr k ↦ (let x = shared_name rs c d k in record { name = x.name; left = inr x.left; right = inr x.right })
]

-- ranges

through : (a b c : ℤ) → int_le a b ≡ true → int_le b c ≡ true → int_le a c ≡ true
through (pos a) (pos b) (pos c) h k = grind (arith, nat_tests)
through (negsuc a) (negsuc b) (negsuc c) h k = grind (arith, nat_tests)
through (negsuc a) b (pos c) h k = refl
through (pos a) (negsuc b) c h k = let q : false ≡ true = h in cc
through a (pos b) (negsuc c) h k = let q : false ≡ true = k in cc

same_le : (a : ℤ) → int_le a a ≡ true
same_le (pos a) = grind (arith, nat_tests)
same_le (negsuc a) = grind (arith, nat_tests)

other_le : (a b : ℤ) → int_le a b ≡ false → int_le b a ≡ true
other_le (pos a) (pos b) h = grind (arith, nat_tests)
other_le (negsuc a) (negsuc b) h = grind (arith, nat_tests)
other_le (pos a) (negsuc b) h = refl
other_le (negsuc a) (pos b) h = let q : true ≡ false = h in cc

ranges_meet : (rs : List Register) (low high least most : ℤ) (i j : Bool) → int_le low high ≡ true → int_le least most ≡ true
    → int_le low most ≡ true → int_le least high ≡ true → (b : Bool) → int_le low least ≡ b
    → Meet (FitsHole rs (NumHole low high i)) (FitsHole rs (NumHole least most j))
ranges_meet rs low high least most i j s t h k true e = record {
  token = NumberToken least;
  left = and_of (int_le low least) (int_le least high) e k;
  right = and_of (int_le least least) (int_le least most) (same_le least) t;
}
ranges_meet rs low high least most i j s t h k false e = record {
  token = NumberToken low;
  left = and_of (int_le low low) (int_le low high) (same_le low) s;
  right = and_of (int_le least low) (int_le low most) (other_le low least e) h;
}

ranges_share : (low high least most m : ℤ) → within low high m ≡ true → within least most m ≡ true → (int_le low most ≡ true) × (int_le least high ≡ true)
ranges_share low high least most m h k =
    let x = both_of (int_le low m) (int_le m high) h in
    let y = both_of (int_le least m) (int_le m most) k in
    (through low m most x.0 y.1, through least m high y.0 x.1)

-- holes

holes_meet : (rs : List Register) (h k : Hole) → IsInOrder h → IsInOrder k → HolesShare rs h k → Meet (FitsHole rs h) (FitsHole rs k)
holes_meet rs (RegHole c) (RegHole d) s t x =
    let y = shared_name rs c d x in record { token = NameToken y.name; left = y.left; right = y.right }
holes_meet rs (NumHole low high i) (NumHole least most j) s t x = ranges_meet rs low high least most i j s t x.0 x.1 (int_le low least) refl
holes_meet rs SymHole SymHole s t x = record { token = NameToken (95 ∷ []); left = refl; right = refl }
holes_meet rs SymHole LabelHole s t x = record { token = NameToken (95 ∷ []); left = refl; right = refl }
holes_meet rs LabelHole SymHole s t x = record { token = NameToken (95 ∷ []); left = refl; right = refl }
holes_meet rs LabelHole LabelHole s t x = record { token = NameToken (95 ∷ []); left = refl; right = refl }
holes_meet rs _ _ s t x = absurd x

holes_share : (rs : List Register) (h k : Hole) → AreNames rs → (t : Token) → FitsHole rs h t → FitsHole rs k t → HolesShare rs h k
holes_share rs (RegHole c) (RegHole d) n (NameToken m) x y = named_shared rs c d m n x y
holes_share rs (NumHole low high i) (NumHole least most j) n (NumberToken m) x y = ranges_share low high least most m x y
holes_share rs SymHole SymHole n t x y = tt
holes_share rs SymHole LabelHole n t x y = tt
holes_share rs LabelHole SymHole n t x y = tt
holes_share rs LabelHole LabelHole n t x y = tt
holes_share rs (RegHole c) SymHole n (NameToken m) x y = apart (is_reserved m) (symbol_reserved m y) (named_free rs c m n x)
holes_share rs SymHole (RegHole c) n (NameToken m) x y = apart (is_reserved m) (symbol_reserved m x) (named_free rs c m n y)
holes_share rs (RegHole c) LabelHole n (NameToken m) x y = apart (is_reserved m) (label_reserved m y) (named_free rs c m n x)
holes_share rs LabelHole (RegHole c) n (NameToken m) x y = apart (is_reserved m) (label_reserved m x) (named_free rs c m n y)
holes_share rs h k n (NameToken m) x y = absurd (search (x, y))
holes_share rs h k n (NumberToken m) x y = absurd (search (x, y))
holes_share rs h k n (MarkToken m) x y = absurd (search (x, y))

-- a hole, if there is one, and another

abbrev InOrder : Option Hole → Type 0
InOrder (Some h) = IsInOrder h
InOrder None = Unit {0}

in_order : (holes : List Hole) → AreInOrder holes → (i : ℕ) (o : Option Hole) → slice_get holes i ≡ o → InOrder o
in_order holes a i (Some h) e = a.each i h e
in_order holes a i None e = tt

some_meet : (rs : List Register) (h k : Option Hole) → InOrder h → InOrder k → SomeShare rs h k → Meet (FitsSome rs h) (FitsSome rs k)
some_meet rs (Some h) (Some k) s t x = holes_meet rs h k s t x
some_meet rs _ _ s t x = absurd x

some_share : (rs : List Register) (h k : Option Hole) → AreNames rs → (t : Token) → FitsSome rs h t → FitsSome rs k t → SomeShare rs h k
some_share rs (Some h) (Some k) n t x y = holes_share rs h k n t x y
some_share rs None k n t x y = absurd x
some_share rs (Some h) None n t x y = absurd y

-- a hole and a piece that is none

takes_meet : (rs : List Register) (h : Option Hole) (others : List Hole) (p : Piece) → SomeTakes rs h p → Meet (FitsSome rs h) (FitsPiece rs others p)
takes_meet rs (Some h) others (Name n) x = record { token = NameToken n; left = x; right = refl }
takes_meet rs (Some h) others (Num z) x = record { token = NumberToken z; left = x; right = refl }
takes_meet rs (Some h) others (Byte b) x = record { token = MarkToken b; left = x; right = refl }
takes_meet rs (Some h) others (HolePiece k) x = absurd x
takes_meet rs None others p x = absurd x

takes_name : (rs : List Register) (h : Option Hole) (n : List ℕ) (t : Token) → FitsSome rs h t → NameToken n ≡ t → SomeTakes rs h (Name n)
takes_name rs (Some h) n t x e = subst (FitsHole rs h) (sym e) x
takes_name rs None n t x e = x

takes_number : (rs : List Register) (h : Option Hole) (z : ℤ) (t : Token) → FitsSome rs h t → NumberToken z ≡ t → SomeTakes rs h (Num z)
takes_number rs (Some h) z t x e = subst (FitsHole rs h) (sym e) x
takes_number rs None z t x e = x

takes_mark : (rs : List Register) (h : Option Hole) (b : ℕ) (t : Token) → FitsSome rs h t → MarkToken b ≡ t → SomeTakes rs h (Byte b)
takes_mark rs (Some h) b t x e = subst (FitsHole rs h) (sym e) x
takes_mark rs None b t x e = x

turned : {P Q : Token → Type 0} → Meet P Q → Meet Q P
turned m = record { token = m.token; left = m.right; right = m.left }

-- pieces

pub share_meet : (rs : List Register) (hs : List Hole) (p : Piece) (ks : List Hole) (q : Piece) → AreInOrder hs → AreInOrder ks
    → Share rs hs p ks q → Meet (FitsPiece rs hs p) (FitsPiece rs ks q)
share_meet rs hs (HolePiece h) ks (HolePiece k) a b x =
    some_meet rs (slice_get hs h) (slice_get ks k) (in_order hs a h (slice_get hs h) refl) (in_order ks b k (slice_get ks k) refl) x
share_meet rs hs (HolePiece h) ks (Name n) a b x = takes_meet rs (slice_get hs h) ks (Name n) x
share_meet rs hs (HolePiece h) ks (Num z) a b x = takes_meet rs (slice_get hs h) ks (Num z) x
share_meet rs hs (HolePiece h) ks (Byte c) a b x = takes_meet rs (slice_get hs h) ks (Byte c) x
share_meet rs hs (Name n) ks (HolePiece k) a b x = turned (takes_meet rs (slice_get ks k) hs (Name n) x)
share_meet rs hs (Num z) ks (HolePiece k) a b x = turned (takes_meet rs (slice_get ks k) hs (Num z) x)
share_meet rs hs (Byte c) ks (HolePiece k) a b x = turned (takes_meet rs (slice_get ks k) hs (Byte c) x)
share_meet rs hs (Name n) ks (Name m) a b x = record { token = NameToken n; left = refl; right = ap NameToken (sym x) }
share_meet rs hs (Num z) ks (Num y) a b x = record { token = NumberToken z; left = refl; right = ap NumberToken (sym x) }
share_meet rs hs (Byte c) ks (Byte d) a b x = record { token = MarkToken c; left = refl; right = ap MarkToken (sym x) }
share_meet rs hs _ ks _ a b x = absurd x

pub meet_share : (rs : List Register) (hs : List Hole) (p : Piece) (ks : List Hole) (q : Piece) → AreNames rs
    → (t : Token) → FitsPiece rs hs p t → FitsPiece rs ks q t → Share rs hs p ks q
meet_share rs hs (HolePiece h) ks (HolePiece k) n t x y = some_share rs (slice_get hs h) (slice_get ks k) n t x y
meet_share rs hs (HolePiece h) ks (Name m) n t x y = takes_name rs (slice_get hs h) m t x y
meet_share rs hs (HolePiece h) ks (Num z) n t x y = takes_number rs (slice_get hs h) z t x y
meet_share rs hs (HolePiece h) ks (Byte c) n t x y = takes_mark rs (slice_get hs h) c t x y
meet_share rs hs (Name m) ks (HolePiece k) n t x y = takes_name rs (slice_get ks k) m t y x
meet_share rs hs (Num z) ks (HolePiece k) n t x y = takes_number rs (slice_get ks k) z t y x
meet_share rs hs (Byte c) ks (HolePiece k) n t x y = takes_mark rs (slice_get ks k) c t y x
meet_share rs hs (Name m) ks (Name l) n t x y = let e : NameToken m ≡ NameToken l = x ∙ sym y in cc
meet_share rs hs (Num m) ks (Num l) n t x y = let e : NumberToken m ≡ NumberToken l = x ∙ sym y in cc
meet_share rs hs (Byte m) ks (Byte l) n t x y = let e : MarkToken m ≡ MarkToken l = x ∙ sym y in cc
meet_share rs hs (Name m) ks (Num l) n t x y = let e : NameToken m ≡ NumberToken l = x ∙ sym y in cc
meet_share rs hs (Name m) ks (Byte l) n t x y = let e : NameToken m ≡ MarkToken l = x ∙ sym y in cc
meet_share rs hs (Num m) ks (Name l) n t x y = let e : NumberToken m ≡ NameToken l = x ∙ sym y in cc
meet_share rs hs (Num m) ks (Byte l) n t x y = let e : NumberToken m ≡ MarkToken l = x ∙ sym y in cc
meet_share rs hs (Byte m) ks (Name l) n t x y = let e : MarkToken m ≡ NameToken l = x ∙ sym y in cc
meet_share rs hs (Byte m) ks (Num l) n t x y = let e : MarkToken m ≡ NumberToken l = x ∙ sym y in cc
