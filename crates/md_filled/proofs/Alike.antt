-- Where a tree is seen, a tree that is alike is seen to be the same.
use Rattle.std.proofs.Common.{◌≡◌, ℕ, Bool, true, false, Option, Some, None, Result, Ok, Err, refl, sym, subst, ap, ◌∙◌, arith}
use Rattle.std.specs.Prelude.{if◌then◌else◌}
use Rattle.rtl_word.specs.declared.Rel.{Rel}
use Rattle.rtl_tree.specs.declared.cells.Cell.{Cell}
use Rattle.rtl_tree.specs.declared.cells.Cell.TheVariants.{Flag}
use Rattle.rtl_tree.specs.declared.expressions.Width.{Width}
use Rattle.rtl_tree.specs.declared.expressions.UnOp.{UnOp}
use Rattle.rtl_tree.specs.declared.expressions.UnOp.TheVariants.{Neg, Not, Sxb, Test}
use Rattle.rtl_tree.specs.declared.expressions.BinOp.{BinOp}
use Rattle.rtl_tree.specs.declared.expressions.BinOp.TheVariants.{Add, Sub, Mul, Div, Divu, Rem, Remu, And, Or, Xor, Shl, Shr, Shru, Cmp, Pair, When}
use Rattle.rtl_tree.specs.Trees.{Tree, Number, Symbol, CodeLabel, Read, Load, Unary, Binary, NoPair, AnyNumber, AnyName}
use Rattle.rtl_tree.specs.Likeness.{commutes, IsAlike, equal, loads, unaries, straight, crossed}
use Rattle.rtl_effect.specs.Views.{Stop, Wild, Mark, View, Seen, bind, width_of, touched, lifted, may_trap, some_trap, unary_seen, binary_seen, unary_on, binary_on, load_on, seen, test_seen}
use Rattle.rtl_effect.specs.Effects.{mark_of_two, marked, place_at, target, chosen, aimed, jump}
use Rattle.rtl_norm_value.proofs.Operators.{binary_commutes, commuting_is_total}

-- what comes of a bind that comes to something
pub record Bound {A B : Type 0} (u : Result A Stop) (f : A → Result B Stop) (y : B) : Type 0 where
  pub value : A
  pub is : u ≡ Ok value
  pub rest : f value ≡ Ok y

pub bound : {A B : Type 0} (u : Result A Stop) (f : A → Result B Stop) (y : B) → bind u f ≡ Ok y → Bound u f y
bound (Ok x) f y e = record { value = x; is = refl; rest = e }
bound (Err s) f y e = absurd (grind (arith, e))

pub ok_is : {A : Type 0} (x y : A) → (let l : Result A Stop = Ok x in l ≡ Ok y) → x ≡ y
ok_is x y e = grind (arith, e)

pub stop_is_no_ok : {A : Type 0} (s : Stop) (y : A) → (let l : Result A Stop = Err s in l ≡ Ok y) → ⊥
stop_is_no_ok s y e = grind (arith, e)

otherwise : (t : Bool) → t ≡ false → (let r : Seen = if t then Err Wild else Ok None in r ≡ Ok None)
otherwise true e = cc
otherwise false e = refl

-- operands that commute
pub seen_crossed : (w : ℕ) (o : BinOp) (x y : Option ℕ) → commutes o ≡ true → binary_seen w o x y ≡ binary_seen w o y x
seen_crossed w o (Some x) (Some y) e = ap lifted (binary_commutes w o x y e)
seen_crossed w o (Some x) None e = let h = commuting_is_total w o x e in otherwise _ h.0 ∙ sym (otherwise _ h.1)
seen_crossed w o None (Some y) e = let h = commuting_is_total w o y e in otherwise _ h.1 ∙ sym (otherwise _ h.0)
seen_crossed w o None None e = refl

both_seen : (w : ℕ) (o : BinOp) (a b : Seen) (x y : Option ℕ) (u : Option ℕ) → a ≡ Ok x → b ≡ Ok y → binary_seen w o x y ≡ Ok u → binary_on w o a b ≡ Ok u
both_seen w o a b x y u e f h = ap (λ r. binary_on w o r b) e ∙ (ap (λ r. binary_on w o (Ok x) r) f ∙ h)

no_commute : (o : BinOp) → o ≡ Pair → commutes o ≡ true → ⊥
no_commute o e h = let k : false ≡ true = sym (ap commutes e) ∙ h in cc

no_commute_when : (o : BinOp) → o ≡ When → commutes o ≡ true → ⊥
no_commute_when o e h = let k : false ≡ true = sym (ap commutes e) ∙ h in cc

module _ (w : ℕ) (v : View) where
  straight_by : (o : BinOp) (a b c d : Tree) (u : Option ℕ) → ((p : Option ℕ) → seen w c v ≡ Ok p → seen w a v ≡ Ok p)
      → ((q : Option ℕ) → seen w d v ≡ Ok q → seen w b v ≡ Ok q) → binary_on w o (seen w c v) (seen w d v) ≡ Ok u
      → binary_on w o (seen w a v) (seen w b v) ≡ Ok u
  straight_by o a b c d u h i e =
      let p = bound (seen w c v) _ u e in
      let q = bound (seen w d v) _ u p.rest in
      both_seen w o (seen w a v) (seen w b v) p.value q.value u (h p.value p.is) (i q.value q.is) q.rest

  crossed_by : (o : BinOp) (a b c d : Tree) (u : Option ℕ) → commutes o ≡ true → ((p : Option ℕ) → seen w d v ≡ Ok p → seen w a v ≡ Ok p)
      → ((q : Option ℕ) → seen w c v ≡ Ok q → seen w b v ≡ Ok q) → binary_on w o (seen w c v) (seen w d v) ≡ Ok u
      → binary_on w o (seen w a v) (seen w b v) ≡ Ok u
  crossed_by o a b c d u k h i e =
      let p = bound (seen w c v) _ u e in
      let q = bound (seen w d v) _ u p.rest in
      both_seen w o (seen w a v) (seen w b v) q.value p.value u (h q.value q.is) (i p.value p.is)
      (seen_crossed w o q.value p.value k ∙ q.rest)

  mutual
    pub alike_seen : (x y : Tree) (u : Option ℕ) → IsAlike x y → seen w y v ≡ Ok u → seen w x v ≡ Ok u
    alike_seen _ _ u (equal a) e = e
    alike_seen _ _ u (loads d a c h) e =
        let k = bound (seen w c v) _ u e in
        ap (load_on (width_of w d) v) (alike_seen a c k.value h k.is) ∙ k.rest
    alike_seen _ _ u (unaries Neg a c h) e =
        let k = bound (seen w c v) _ u e in ap (unary_on w Neg) (alike_seen a c k.value h k.is) ∙ k.rest
    alike_seen _ _ u (unaries Not a c h) e =
        let k = bound (seen w c v) _ u e in ap (unary_on w Not) (alike_seen a c k.value h k.is) ∙ k.rest
    alike_seen _ _ u (unaries Sxb a c h) e =
        let k = bound (seen w c v) _ u e in ap (unary_on w Sxb) (alike_seen a c k.value h k.is) ∙ k.rest
    alike_seen _ _ u (unaries (Test r) a c h) e = alike_tested r a c u h e
    alike_seen _ _ u (straight o a b c d h i) e = straight_by o a b c d u (λ p f. alike_seen a c p h f) (λ q f. alike_seen b d q i f) e
    alike_seen _ _ u (crossed o a b c d k h i) e = crossed_by o a b c d u k (λ p f. alike_seen a d p h f) (λ q f. alike_seen b c q i f) e

    alike_tested : (r : Rel) (x y : Tree) (u : Option ℕ) → IsAlike x y → test_seen w r y v ≡ Ok u → test_seen w r x v ≡ Ok u
    alike_tested r _ _ u (equal a) e = e
    alike_tested r _ _ u (loads d a c h) e = absurd (stop_is_no_ok _ u e)
    alike_tested r _ _ u (unaries o a c h) e = absurd (stop_is_no_ok _ u e)
    alike_tested r _ _ u (straight Pair a b c d h i) e = straight_by (Cmp r) a b c d u (λ p f. alike_seen a c p h f) (λ q f. alike_seen b d q i f) e
    alike_tested r _ _ u (straight _ a b c d h i) e = absurd (stop_is_no_ok _ u e)
    alike_tested r _ _ u (crossed Pair a b c d k h i) e = absurd (no_commute Pair refl k)
    alike_tested r _ _ u (crossed _ a b c d k h i) e = absurd (stop_is_no_ok _ u e)

  -- where a jump leads
  word_target : (x y : Tree) (q : Option ℕ) → IsAlike x y → bind (seen w y v) (λ n. Ok (place_at v n)) ≡ Ok q → bind (seen w x v) (λ n. Ok (place_at v n)) ≡ Ok q
  word_target x y q h e =
      let k = bound (seen w y v) _ q e in
      ap (λ (r : Seen). bind r (λ n. Ok (place_at v n))) (alike_seen x y k.value h k.is) ∙ k.rest

  alike_target : (x y : Tree) (q : Option ℕ) → IsAlike x y → target w y v ≡ Ok q → target w x v ≡ Ok q
  alike_target _ _ q (equal a) e = e
  alike_target _ _ q (loads d a c h) e = word_target (Load d a) (Load d c) q (loads d a c h) e
  alike_target _ _ q (unaries o a c h) e = word_target (Unary o a) (Unary o c) q (unaries o a c h) e
  alike_target _ _ q (straight o a b c d h i) e = word_target (Binary o a b) (Binary o c d) q (straight o a b c d h i) e
  alike_target _ _ q (crossed o a b c d k h i) e = word_target (Binary o a b) (Binary o c d) q (crossed o a b c d k h i) e

  word_jump : (x y : Tree) (q : Option ℕ) → IsAlike x y → bind (target w y v) aimed ≡ Ok q → bind (target w x v) aimed ≡ Ok q
  word_jump x y q h e =
      let k = bound (target w y v) aimed q e in
      ap (λ (r : Seen). bind r aimed) (alike_target x y k.value h k.is) ∙ k.rest

  when_jump : (a b c d : Tree) (q : Option ℕ) → IsAlike a c → IsAlike b d → jump w (Binary When c d) v ≡ Ok q → jump w (Binary When a b) v ≡ Ok q
  when_jump a b c d q h i e =
      let k = bound (seen w c v) _ q e in
      let l = bound (target w d v) (chosen v k.value) q k.rest in
      ap (λ (r : Seen). bind r (λ x. bind (target w b v) (chosen v x))) (alike_seen a c k.value h k.is)
      ∙ (ap (λ (r : Seen). bind r (chosen v k.value)) (alike_target b d l.value i l.is) ∙ l.rest)

  pub alike_jump : (x y : Tree) (q : Option ℕ) → IsAlike x y → jump w y v ≡ Ok q → jump w x v ≡ Ok q
  alike_jump _ _ q (equal a) e = e
  alike_jump _ _ q (loads d a c h) e = word_jump (Load d a) (Load d c) q (loads d a c h) e
  alike_jump _ _ q (unaries o a c h) e = word_jump (Unary o a) (Unary o c) q (unaries o a c h) e
  alike_jump _ _ q (straight When a b c d h i) e = when_jump a b c d q h i e
  alike_jump _ _ q (straight o a b c d h i) e = word_jump (Binary o a b) (Binary o c d) q (straight o a b c d h i) e
  alike_jump _ _ q (crossed When a b c d k h i) e = absurd (no_commute_when When refl k)
  alike_jump _ _ q (crossed o a b c d k h i) e = word_jump (Binary o a b) (Binary o c d) q (crossed o a b c d k h i) e

  marked_pair : (a b c d : Tree) (r : Mark) → IsAlike a c → IsAlike b d → marked w (Binary Pair c d) v ≡ Ok r → marked w (Binary Pair a b) v ≡ Ok r
  marked_pair a b c d r h i e =
      let p = bound (seen w c v) _ r e in
      let q = bound (seen w d v) _ r p.rest in
      ap (λ (o : Seen). bind o (λ x. bind (seen w b v) (λ y. Ok (mark_of_two x y)))) (alike_seen a c p.value h p.is)
      ∙ (ap (λ (o : Seen). bind o (λ y. Ok (mark_of_two p.value y))) (alike_seen b d q.value i q.is) ∙ q.rest)

  pub alike_marked : (x y : Tree) (r : Mark) → IsAlike x y → marked w y v ≡ Ok r → marked w x v ≡ Ok r
  alike_marked _ _ r (equal a) e = e
  alike_marked _ _ r (loads d a c h) e = absurd (stop_is_no_ok _ r e)
  alike_marked _ _ r (unaries o a c h) e = absurd (stop_is_no_ok _ r e)
  alike_marked _ _ r (straight Pair a b c d h i) e = marked_pair a b c d r h i e
  alike_marked _ _ r (straight _ a b c d h i) e = absurd (stop_is_no_ok _ r e)
  alike_marked _ _ r (crossed Pair a b c d k h i) e = absurd (no_commute Pair refl k)
  alike_marked _ _ r (crossed _ a b c d k h i) e = absurd (stop_is_no_ok _ r e)

-- what a leaf, a load and a pair are alike

pub alike_read : (c : Cell) (y : Tree) → IsAlike (Read c) y → y ≡ Read c
alike_read c _ (equal a) = refl

pub alike_lost : (y : Tree) → IsAlike NoPair y → y ≡ NoPair
alike_lost _ (equal a) = refl

pub record LoadAlike (d : Width) (a y : Tree) : Type 0 where
  pub at : Tree
  pub is : y ≡ Load d at
  pub alike : IsAlike a at

pub alike_load : (d : Width) (a y : Tree) → IsAlike (Load d a) y → LoadAlike d a y
alike_load d a _ (equal _) = record { at = a; is = refl; alike = equal a }
alike_load d a _ (loads _ _ c h) = record { at = c; is = refl; alike = h }

pub record PairAlike (a b y : Tree) : Type 0 where
  pub left : Tree
  pub right : Tree
  pub is : y ≡ Binary Pair left right
  pub first : IsAlike a left
  pub second : IsAlike b right

pub alike_pair : (a b y : Tree) → IsAlike (Binary Pair a b) y → PairAlike a b y
alike_pair a b _ (equal _) = record { left = a; right = b; is = refl; first = equal a; second = equal b }
alike_pair a b _ (straight _ _ _ c d h i) = record { left = c; right = d; is = refl; first = h; second = i }
alike_pair a b _ (crossed _ _ _ c d k h i) = absurd (no_commute Pair refl k)
