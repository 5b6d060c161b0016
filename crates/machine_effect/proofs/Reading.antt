-- What is seen of what a machine holds is the value.
use Rattle.std.proofs.Common.{◌≡◌, ℕ, zero, suc, ◌+◌, ◌*◌, ◌/◌, ◌%◌, ◌<◌, ◌≤◌, Bool, true, false, cond, List, [], ◌∷◌, length, slice_index, Option, Some, None, Result, Ok, Err, arith, refl, sym, ap, ◌∙◌, nat_lt}
use Rattle.std.proofs.lemmas.Bool.Decides.{nat_tests}
use Rattle.std.specs.Prelude.{nat_le, ◌==◌, slice_get}
use Rattle.rtl_word.specs.declared.Rel.{Rel}
use Rattle.rtl_tree.specs.Trees.{Tree, Number, Symbol, CodeLabel, Read, Load, Unary, Binary, NoPair, AnyNumber, AnyName}
use Rattle.rtl_tree.specs.declared.cells.Cell.TheVariants.{Flag}
use Rattle.rtl_tree.specs.declared.expressions.Width.{Width}
use Rattle.rtl_tree.specs.declared.expressions.Width.TheVariants.{Byte, Full}
use Rattle.rtl_tree.specs.declared.expressions.UnOp.{UnOp}
use Rattle.rtl_tree.specs.declared.expressions.UnOp.TheVariants.{Neg, Not, Sxb, Test}
use Rattle.rtl_tree.specs.declared.expressions.BinOp.{BinOp}
use Rattle.rtl_tree.specs.declared.expressions.BinOp.TheVariants.{Pair, Cmp}
use Rattle.rtl_value.specs.declared.state.Trap.{Trap}
use Rattle.rtl_value.specs.declared.state.Trap.TheVariants.{Address, Align}
use Rattle.rtl_value.specs.declared.state.FlagPair.{FlagPair}
use Rattle.rtl_value.specs.declared.state.State.{State}
use Rattle.rtl_value.specs.Values.{value_of, test_of, flag_test, bytes_at, load_of, and_then, unary_value, binary_value}
use Rattle.rtl_effect.specs.Views.{Traps, Wild, View, Seen, bind, lifted, both, word_at, all_reached, width_of, touched, unary_on, binary_on, load_on, mark_test, mark_of, test_seen, seen}
use Rattle.rtl_effect.proofs.SeenValues.{both_on}
use Rattle.machine_turn.specs.Held.{IsTree}
use Rattle.machine_effect.specs.Standing.{Shows}

reach_cases : (b c : Bool) → b ≡ true → c ≡ true → cond b c false ≡ true
reach_cases true c e f = f
reach_cases false c e f = e

both_shown : (x y : Option ℕ) (a b : ℕ) (f : ℕ → ℕ → ℕ) → x ≡ Some a → y ≡ Some b → both x y f ≡ Some (f a b)
both_shown x y a b f e h = ap (λ p. both p y f) e ∙ ap (λ p. both (Some a) p f) h

pub le_of_test : (a b : ℕ) → nat_le a b ≡ true → a ≤ b
le_of_test a b e = grind (arith, nat_tests, e)

pub mod-one : (a : ℕ) → (a % 1 == 0) ≡ true
mod-one a = grind (arith, nat_tests)

full_cases : (x y z : Bool) (u : ℕ) (go : ℕ → Seen) (a : ℕ) → z ≡ true → (x ≡ true → go a ≡ Ok (Some u))
    → bind {A = ℕ} (cond x (cond y (cond z (Ok a) (Err Wild)) (Err (Traps Align))) (Err (Traps Address))) go ≡ lifted (cond x (cond y (Ok u) (Err Align)) (Err Address))
full_cases true true true u go a e f = f refl
full_cases true true false u go a e f = absurd (let k : false ≡ true = e in cc)
full_cases true false z u go a e f = refl
full_cases false y z u go a e f = refl

byte_cases : (x y z : Bool) (u : ℕ) (go : ℕ → Seen) (a : ℕ) → y ≡ true → z ≡ true → (x ≡ true → go a ≡ Ok (Some u))
    → bind {A = ℕ} (cond x (cond y (cond z (Ok a) (Err Wild)) (Err (Traps Align))) (Err (Traps Address))) go ≡ lifted (cond x (Ok u) (Err Address))
byte_cases true true true u go a e h f = f refl
byte_cases true true false u go a e h f = absurd (let k : false ≡ true = h in cc)
byte_cases true false z u go a e h f = absurd (let k : false ≡ true = e in cc)
byte_cases false y z u go a e h f = refl

just : (x y : Option ℕ) → x ≡ y → let r : Seen = Ok x in r ≡ Ok y
just x y e = ap (λ p. let r : Seen = Ok p in r) e

just_word : (x y : ℕ) → x ≡ y → let r : Seen = Ok (Some x) in r ≡ Ok (Some y)
just_word x y e = ap (λ p. let r : Seen = Ok (Some p) in r) e

byte_is : (x : ℕ) → x + 256 * 0 ≡ x
byte_is x = omega arith

unary_lifts : (w : ℕ) (o : UnOp) (u : Result ℕ Trap) → unary_on w o (lifted u) ≡ lifted (unary_value w o u)
unary_lifts w o (Ok a) = refl
unary_lifts w o (Err t) = refl

binary_lifts : (w : ℕ) (o : BinOp) (u v : Result ℕ Trap) → binary_on w o (lifted u) (lifted v) ≡ lifted (binary_value w o u v)
binary_lifts w o (Ok a) (Ok b) = refl
binary_lifts w o (Ok a) (Err t) = refl
binary_lifts w o (Err t) v = refl

test_lifts : (w : ℕ) (r : Rel) (h : Option (Option FlagPair)) → mark_test w r (mark_of h) ≡ lifted (flag_test w r h)
test_lifts w r (Some (Some p)) = refl
test_lifts w r (Some None) = refl
test_lifts w r None = refl

module _ (w : ℕ) (s : State) (v : View) (h : Shows w s v) where
  pub reached : (a n : ℕ) → all_reached v.reach a n ≡ true
  reached a zero = refl
  reached a (suc n) = reach_cases (v.reach a) _ (h.reach a) (reached (a + 1) n)

  word_shown : (a n : ℕ) → a + n ≤ length s.memory → word_at v.bytes a n ≡ Some (bytes_at s.memory a n)
  word_shown a zero l = refl
  word_shown a (suc n) l =
      let here : a < length s.memory = omega arith in
      let rest : a + 1 + n ≤ length s.memory = omega arith in
      both_shown _ _ _ _ (λ x y. x + 256 * y) (h.bytes a here) (word_shown (a + 1) n rest)

  load_shown : (d : Width) (u : Result ℕ Trap) → load_on (width_of w d) v (lifted u) ≡ lifted (and_then u (load_of w d s.memory))
  load_shown d (Err t) = refl
  load_shown Full (Ok a) =
      rw h.size (full_cases (nat_le (a + w / 8) (length s.memory)) _ _ _ (λ b. Ok (word_at v.bytes b (w / 8))) a (reached a (w / 8))
      (λ e. just _ _ (word_shown a (w / 8) (le_of_test _ _ e))))
  load_shown Byte (Ok a) =
      rw h.size (byte_cases (nat_le (a + 1) (length s.memory)) _ _ _ (λ b. Ok (word_at v.bytes b 1)) a (mod-one a) (reached a 1)
      (λ e. just _ _ (word_shown a 1 (le_of_test _ _ e)) ∙ just_word _ _ (byte_is (slice_index s.memory a))))

  mutual
    pub seen_shown : (named : Type 0) (t : Tree) → IsTree named w t → seen w t v ≡ lifted (value_of w t s)
    seen_shown named (Number n) i = refl
    seen_shown named (Symbol n) i = just_word _ _ (h.symbols n)
    seen_shown named (CodeLabel l) i = just _ _ (h.labels l)
    seen_shown named (Read c) i = just _ _ (h.cells c i)
    seen_shown named (Load d a) i = ap (load_on (width_of w d) v) (seen_shown named a i) ∙ load_shown d (value_of w a s)
    seen_shown named (Unary (Test r) a) i = test_shown named r a i
    seen_shown named (Unary Neg a) i = ap (unary_on w Neg) (seen_shown named a i) ∙ unary_lifts w Neg (value_of w a s)
    seen_shown named (Unary Not a) i = ap (unary_on w Not) (seen_shown named a i) ∙ unary_lifts w Not (value_of w a s)
    seen_shown named (Unary Sxb a) i = ap (unary_on w Sxb) (seen_shown named a i) ∙ unary_lifts w Sxb (value_of w a s)
    seen_shown named (Binary o a b) i = both_on w o _ _ _ _ (seen_shown named a i.0) (seen_shown named b i.1) ∙ binary_lifts w o (value_of w a s) (value_of w b s)
    seen_shown named NoPair i = refl
    seen_shown named (AnyNumber n) i = refl
    seen_shown named (AnyName n) i = refl

    test_shown : (named : Type 0) (r : Rel) (t : Tree) → IsTree named w t → test_seen w r t v ≡ lifted (test_of w r t s)
    test_shown named r (Read (Flag n)) i = ap (mark_test w r) (h.flags n) ∙ test_lifts w r (slice_get s.flags n)
    test_shown named r (Binary Pair a b) i =
        both_on w (Cmp r) _ _ _ _ (seen_shown named a i.0) (seen_shown named b i.1) ∙ binary_lifts w (Cmp r) (value_of w a s) (value_of w b s)
    test_shown named r _ i = refl
