-- Where no hole for a number stands in a tree, its normal form is filled as well before as afterwards.
use Rattle.std.proofs.Common.{◌≡◌, ℕ, zero, suc, ◌+◌, ◌-◌, ◌^◌, Bool, true, false, not, cond, ◌&&◌, List, slice_get, Option, Some, None, option_map, refl, sym, subst, ap, ◌∙◌}
use Rattle.std.specs.Prelude.{◌==◌, nat_le}
use Rattle.rtl_word.specs.declared.Rel.{Rel}
use Rattle.rtl_word.specs.Words.{word_neg, mirrored}
use Rattle.rtl_tree.specs.declared.cells.Cell.{Cell}
use Rattle.rtl_tree.specs.declared.cells.Cell.TheVariants.{Hard, Temp, Flag, Pc, Input, Output, Halt, Hole as RegisterHole}
use Rattle.rtl_tree.specs.declared.cells.Lab.{Lab}
use Rattle.rtl_tree.specs.declared.expressions.Width.{Width}
use Rattle.rtl_tree.specs.declared.expressions.Width.TheVariants.{Byte, Full}
use Rattle.rtl_tree.specs.declared.expressions.UnOp.{UnOp}
use Rattle.rtl_tree.specs.declared.expressions.UnOp.TheVariants.{Neg, Not, Sxb, Test}
use Rattle.rtl_tree.specs.declared.expressions.BinOp.{BinOp}
use Rattle.rtl_tree.specs.declared.expressions.BinOp.TheVariants.{Add, Sub, Mul, Div, Divu, Rem, Remu, And, Or, Xor, Shl, Shr, Shru, Cmp, Pair, When}
use Rattle.rtl_tree.specs.Trees.{Tree, Number, Symbol, CodeLabel, Read, Load, Unary, Binary, NoPair, AnyNumber, AnyName}
use Rattle.rtl_tree.specs.Likeness.{commutes}
use Rattle.rtl_norm.specs.Numbers.{is_constant, unary_number, binary_number}
use Rattle.rtl_norm.specs.Rules.{folded, number_if, fold_rule, swap_rule, is_order, mirror_rule, minus_rule, negate_rule, joined, joined_number, left_of, binary_if, join_rule, is_neutral, neutral_rule, twice_rule, extend_rule, cut_rule, byte_rule, pair_rule, when_rule}
use Rattle.rtl_norm.specs.Normal.{or_else, step, weight, sub_weight, constant_weight, follow, steps, finish, norm}
use Rattle.rtl_norm.proofs.Rewrites.{Rewrites, folds, folds_one, swaps, adds, joins, drops, compares, mirrors, negates, twice_neg, twice_not, extends, extends_low, cuts, bytes, goes, step_sound}
use Rattle.rtl_norm.proofs.Finish.{finish_keeps}
use Rattle.md_rows.specs.declared.instance.Bound.{Bound}
use Rattle.md_rows.specs.Instances.{held_by, filled}
use Rattle.md_filled.specs.Held.{IsRegister, IsWord, IsName, IsHeld}
use Rattle.md_filled.specs.Plain.{IsPlain}
use Rattle.md_filled.specs.Law.{FormIsFilled}
use Rattle.md_filled.proofs.Rewriting.{register_is, word_is, name_is, constant_filled, held_kept}

-- what the rules look at: a number, and the root of a tree

abbrev number_in : Tree → Option ℕ
number_in (Number n) = Some n
number_in _ = None

record Under : Type 0 where
  operator : UnOp
  operand : Tree

abbrev under_in : Tree → Option Under
under_in (Unary o a) = Some (record { operator = o; operand = a })
under_in _ = None

record Pairing : Type 0 where
  operator : BinOp
  left : Tree
  right : Tree

abbrev pairing_in : Tree → Option Pairing
pairing_in (Binary o a b) = Some (record { operator = o; left = a; right = b })
pairing_in _ = None

record Loading : Type 0 where
  width : Width
  at : Tree

abbrev loading_in : Tree → Option Loading
loading_in (Load d a) = Some (record { width = d; at = a })
loading_in _ = None

-- the rules by what they look at

abbrev fold_one : ℕ → UnOp → Option ℕ → Option ℕ
fold_one w o (Some a) = unary_number w o a
fold_one w o None = None

abbrev fold_two : ℕ → BinOp → Option ℕ → Option ℕ → Option ℕ
fold_two w o (Some a) (Some b) = binary_number w o a b
fold_two w o (Some a) None = None
fold_two w o None y = None

one_is : (w : ℕ) (o : UnOp) (a : Tree) → folded w (Unary o a) ≡ fold_one w o (number_in a)
one_is w o (Number n) = refl
one_is w o _ = refl

two_is : (w : ℕ) (o : BinOp) (a b : Tree) → folded w (Binary o a b) ≡ fold_two w o (number_in a) (number_in b)
two_is w o (Number m) (Number n) = refl
two_is w o (Number m) _ = refl
two_is w o _ b = refl

abbrev minus_by : ℕ → BinOp → Tree → Option ℕ → Option Tree
minus_by w Sub a (Some c) = Some (Binary Add a (Number (word_neg w c)))
minus_by w Sub a None = None
minus_by w _ a o = None

minus_is : (w : ℕ) (o : BinOp) (a b : Tree) → minus_rule w (Binary o a b) ≡ minus_by w o a (number_in b)
unfolding minus_rule
minus_is w Sub a (Number c) = refl
minus_is w Sub a _ = refl
minus_is w _ a b = refl

abbrev negate_by : BinOp → Option ℕ → Tree → Option Tree
negate_by Sub (Some c) a = cond (c == 0) (Some (Unary Neg a)) None
negate_by Sub None a = None
negate_by _ o a = None

negate_is : (o : BinOp) (a b : Tree) → negate_rule (Binary o a b) ≡ negate_by o (number_in a) b
unfolding negate_rule
negate_is Sub (Number c) b = refl
negate_is Sub _ b = refl
negate_is _ a b = refl

abbrev join_two : ℕ → BinOp → BinOp → Option ℕ → ℕ → Option ℕ
join_two w o p (Some c) d = joined w o p c d
join_two w o p None d = None

abbrev join_by : ℕ → BinOp → Option Pairing → Option ℕ → Option ℕ
join_by w o (Some p) (Some d) = join_two w o p.operator (number_in p.right) d
join_by w o (Some p) None = None
join_by w o None y = None

join_is : (w : ℕ) (o : BinOp) (a b : Tree) → joined_number w o a b ≡ join_by w o (pairing_in a) (number_in b)
join_is w o (Binary p a (Number c)) (Number d) = refl
join_is w o (Binary p a (Number c)) _ = refl
join_is w o (Binary p a _) (Number d) = refl
join_is w o (Binary p a _) _ = refl
join_is w o _ b = refl

abbrev neutral_by : ℕ → BinOp → Tree → Option ℕ → Option Tree
neutral_by w o a (Some c) = cond (is_neutral w o c) (Some a) None
neutral_by w o a None = None

neutral_is : (w : ℕ) (o : BinOp) (a b : Tree) → neutral_rule w (Binary o a b) ≡ neutral_by w o a (number_in b)
unfolding neutral_rule
neutral_is w o a (Number c) = refl
neutral_is w o a _ = refl

abbrev twice_two : UnOp → UnOp → Tree → Option Tree
twice_two Neg Neg a = Some a
twice_two Not Not a = Some a
twice_two _ _ a = None

abbrev twice_by : UnOp → Option Under → Option Tree
twice_by o (Some u) = twice_two o u.operator u.operand
twice_by o None = None

twice_is : (o : UnOp) (a : Tree) → twice_rule (Unary o a) ≡ twice_by o (under_in a)
unfolding twice_rule
twice_is Neg (Unary Neg a) = refl
twice_is Neg (Unary Not a) = refl
twice_is Neg (Unary Sxb a) = refl
twice_is Neg (Unary (Test r) a) = refl
twice_is Neg _ = refl
twice_is Not (Unary Neg a) = refl
twice_is Not (Unary Not a) = refl
twice_is Not (Unary Sxb a) = refl
twice_is Not (Unary (Test r) a) = refl
twice_is Not _ = refl
twice_is Sxb (Unary o a) = refl
twice_is Sxb _ = refl
twice_is (Test r) (Unary o a) = refl
twice_is (Test r) _ = refl

abbrev extend_one : UnOp → Tree → Option Tree
extend_one Sxb a = Some (Unary Sxb a)
extend_one _ a = None

abbrev extend_two : BinOp → Tree → Option ℕ → Option Tree
extend_two And a (Some c) = cond (c == 255) (Some (Unary Sxb a)) None
extend_two And a None = None
extend_two _ a o = None

abbrev extend_by : UnOp → Option Under → Option Pairing → Option Tree
extend_by Sxb (Some u) p = extend_one u.operator u.operand
extend_by Sxb None (Some p) = extend_two p.operator p.left (number_in p.right)
extend_by Sxb None None = None
extend_by _ u p = None

extend_is : (o : UnOp) (a : Tree) → extend_rule (Unary o a) ≡ extend_by o (under_in a) (pairing_in a)
unfolding extend_rule
extend_is Sxb (Unary Sxb a) = refl
extend_is Sxb (Unary _ a) = refl
extend_is Sxb (Binary And a (Number c)) = refl
extend_is Sxb (Binary And a _) = refl
extend_is Sxb (Binary _ a c) = refl
extend_is Sxb _ = refl
extend_is _ a = refl

abbrev cut_one : UnOp → Tree → ℕ → Option Tree
cut_one Sxb a c = cond (nat_le c 255) (Some (Binary And a (Number c))) None
cut_one _ a c = None

abbrev cut_by : BinOp → Option Under → Option ℕ → Option Tree
cut_by And (Some u) (Some c) = cut_one u.operator u.operand c
cut_by And (Some u) None = None
cut_by And None y = None
cut_by _ u y = None

cut_is : (o : BinOp) (a b : Tree) → cut_rule (Binary o a b) ≡ cut_by o (under_in a) (number_in b)
unfolding cut_rule
cut_is And (Unary Sxb a) (Number c) = refl
cut_is And (Unary Sxb a) _ = refl
cut_is And (Unary _ a) (Number c) = refl
cut_is And (Unary _ a) _ = refl
cut_is And _ b = refl
cut_is _ a b = refl

abbrev byte_one : Width → Tree → ℕ → Option Tree
byte_one Byte a c = cond (c == 255) (Some (Load Byte a)) None
byte_one Full a c = None

abbrev byte_by : BinOp → Option Loading → Option ℕ → Option Tree
byte_by And (Some l) (Some c) = byte_one l.width l.at c
byte_by And (Some l) None = None
byte_by And None y = None
byte_by _ l y = None

byte_is : (o : BinOp) (a b : Tree) → byte_rule (Binary o a b) ≡ byte_by o (loading_in a) (number_in b)
unfolding byte_rule
byte_is And (Load Byte a) (Number c) = refl
byte_is And (Load Byte a) _ = refl
byte_is And (Load Full a) (Number c) = refl
byte_is And (Load Full a) _ = refl
byte_is And _ b = refl
byte_is _ a b = refl

abbrev pair_two : Rel → BinOp → Tree → Tree → Option Tree
pair_two r Pair a b = Some (Binary (Cmp r) a b)
pair_two r _ a b = None

abbrev pair_by : UnOp → Option Pairing → Option Tree
pair_by (Test r) (Some p) = pair_two r p.operator p.left p.right
pair_by (Test r) None = None
pair_by _ p = None

pair_is : (o : UnOp) (a : Tree) → pair_rule (Unary o a) ≡ pair_by o (pairing_in a)
unfolding pair_rule
pair_is (Test r) (Binary Pair a b) = refl
pair_is (Test r) (Binary _ a b) = refl
pair_is (Test r) _ = refl
pair_is _ a = refl

abbrev when_by : BinOp → Option ℕ → Tree → Option Tree
when_by When (Some c) l = cond (c == 0) None (Some l)
when_by When None l = None
when_by _ o l = None

when_is : (o : BinOp) (a b : Tree) → when_rule (Binary o a b) ≡ when_by o (number_in a) b
unfolding when_rule
when_is When (Number c) b = refl
when_is When _ b = refl
when_is _ a b = refl

module _ (w : ℕ) (b : List Bound) where
  abbrev full : Tree → Tree
  full = filled b

  abbrev under_full : Under → Under
  under_full u = record { operator = u.operator; operand = full u.operand }

  abbrev pairing_full : Pairing → Pairing
  pairing_full p = record { operator = p.operator; left = full p.left; right = full p.right }

  abbrev loading_full : Loading → Loading
  loading_full l = record { width = l.width; at = full l.at }

  -- a filled tree looks like the tree
  record Looks (t u : Tree) : Type 0 where
    number : number_in u ≡ number_in t
    under : under_in u ≡ option_map under_full (under_in t)
    pairing : pairing_in u ≡ option_map pairing_full (pairing_in t)
    loading : loading_in u ≡ option_map loading_full (loading_in t)

  looks : (t : Tree) → IsHeld w b t → IsPlain t → Looks t (full t)
  looks (Number n) h p = record { number = refl; under = refl; pairing = refl; loading = refl }
  looks (Symbol n) h p = record { number = refl; under = refl; pairing = refl; loading = refl }
  looks (CodeLabel l) h p = record { number = refl; under = refl; pairing = refl; loading = refl }
  looks (Read (RegisterHole k)) h p =
      register_is (λ u. Looks (Read (RegisterHole k)) u) (Read (RegisterHole k)) (slice_get b k) h
      (λ n. record { number = refl; under = refl; pairing = refl; loading = refl })
      (λ n. record { number = refl; under = refl; pairing = refl; loading = refl })
  looks (Read (Hard n)) h p = record { number = refl; under = refl; pairing = refl; loading = refl }
  looks (Read (Temp n)) h p = record { number = refl; under = refl; pairing = refl; loading = refl }
  looks (Read (Flag n)) h p = record { number = refl; under = refl; pairing = refl; loading = refl }
  looks (Read Pc) h p = record { number = refl; under = refl; pairing = refl; loading = refl }
  looks (Read Input) h p = record { number = refl; under = refl; pairing = refl; loading = refl }
  looks (Read Output) h p = record { number = refl; under = refl; pairing = refl; loading = refl }
  looks (Read Halt) h p = record { number = refl; under = refl; pairing = refl; loading = refl }
  looks (Load d a) h p = record { number = refl; under = refl; pairing = refl; loading = refl }
  looks (Unary o a) h p = record { number = refl; under = refl; pairing = refl; loading = refl }
  looks (Binary o a c) h p = record { number = refl; under = refl; pairing = refl; loading = refl }
  looks NoPair h p = record { number = refl; under = refl; pairing = refl; loading = refl }
  looks (AnyNumber n) h p = absurd p
  looks (AnyName k) h p =
      name_is (λ u. Looks (AnyName k) u) (AnyName k) (slice_get b k) h
      (λ n. record { number = refl; under = refl; pairing = refl; loading = refl })
      (λ l. record { number = refl; under = refl; pairing = refl; loading = refl })

  abbrev made : Option Tree → Option Tree
  made = option_map full

  cond_made : (k : Bool) (x y : Option Tree) → cond k (made x) (made y) ≡ made (cond k x y)
  cond_made true x y = refl
  cond_made false x y = refl

  minus_made : (o : BinOp) (a : Tree) (y : Option ℕ) → minus_by w o (full a) y ≡ made (minus_by w o a y)
  minus_made Sub a (Some c) = refl
  minus_made Sub a None = refl
  minus_made _ a y = refl

  negate_made : (o : BinOp) (y : Option ℕ) (a : Tree) → negate_by o y (full a) ≡ made (negate_by o y a)
  negate_made Sub (Some c) a = cond_made (c == 0) (Some (Unary Neg a)) None
  negate_made Sub None a = refl
  negate_made _ y a = refl

  neutral_made : (o : BinOp) (a : Tree) (y : Option ℕ) → neutral_by w o (full a) y ≡ made (neutral_by w o a y)
  neutral_made o a (Some c) = cond_made (is_neutral w o c) (Some a) None
  neutral_made o a None = refl

  twice_made : (o p : UnOp) (a : Tree) → twice_two o p (full a) ≡ made (twice_two o p a)
  twice_made Neg Neg a = refl
  twice_made Neg Not a = refl
  twice_made Neg Sxb a = refl
  twice_made Neg (Test r) a = refl
  twice_made Not Neg a = refl
  twice_made Not Not a = refl
  twice_made Not Sxb a = refl
  twice_made Not (Test r) a = refl
  twice_made Sxb p a = refl
  twice_made (Test r) p a = refl

  twice_under : (o : UnOp) (u : Option Under) → twice_by o (option_map under_full u) ≡ made (twice_by o u)
  twice_under o (Some u) = twice_made o u.operator u.operand
  twice_under o None = refl

  extend_one_made : (o : UnOp) (a : Tree) → extend_one o (full a) ≡ made (extend_one o a)
  extend_one_made Sxb a = refl
  extend_one_made _ a = refl

  extend_two_made : (o : BinOp) (a : Tree) (y : Option ℕ) → extend_two o (full a) y ≡ made (extend_two o a y)
  extend_two_made And a (Some c) = cond_made (c == 255) (Some (Unary Sxb a)) None
  extend_two_made And a None = refl
  extend_two_made _ a y = refl

  cut_one_made : (o : UnOp) (a : Tree) (c : ℕ) → cut_one o (full a) c ≡ made (cut_one o a c)
  cut_one_made Sxb a c = cond_made (nat_le c 255) (Some (Binary And a (Number c))) None
  cut_one_made _ a c = refl

  cut_made : (o : BinOp) (u : Option Under) (y : Option ℕ) → cut_by o (option_map under_full u) y ≡ made (cut_by o u y)
  cut_made And (Some u) (Some c) = cut_one_made u.operator u.operand c
  cut_made And (Some u) None = refl
  cut_made And None y = refl
  cut_made _ u y = refl

  byte_one_made : (d : Width) (a : Tree) (c : ℕ) → byte_one d (full a) c ≡ made (byte_one d a c)
  byte_one_made Byte a c = cond_made (c == 255) (Some (Load Byte a)) None
  byte_one_made Full a c = refl

  byte_made : (o : BinOp) (l : Option Loading) (y : Option ℕ) → byte_by o (option_map loading_full l) y ≡ made (byte_by o l y)
  byte_made And (Some l) (Some c) = byte_one_made l.width l.at c
  byte_made And (Some l) None = refl
  byte_made And None y = refl
  byte_made _ l y = refl

  pair_two_made : (r : Rel) (o : BinOp) (x y : Tree) → pair_two r o (full x) (full y) ≡ made (pair_two r o x y)
  pair_two_made r Pair x y = refl
  pair_two_made r _ x y = refl

  pair_made : (o : UnOp) (p : Option Pairing) → pair_by o (option_map pairing_full p) ≡ made (pair_by o p)
  pair_made (Test r) (Some p) = pair_two_made r p.operator p.left p.right
  pair_made (Test r) None = refl
  pair_made _ p = refl

  when_made : (o : BinOp) (y : Option ℕ) (l : Tree) → when_by o y (full l) ≡ made (when_by o y l)
  when_made When (Some c) l = cond_made (c == 0) None (Some l)
  when_made When None l = refl
  when_made _ y l = refl

  numbered_made : (o : Option ℕ) → number_if o ≡ made (number_if o)
  numbered_made (Some n) = refl
  numbered_made None = refl

  binary_made : (o : BinOp) (a : Tree) (y : Option ℕ) → binary_if o (full a) y ≡ made (binary_if o a y)
  binary_made o a (Some n) = refl
  binary_made o a None = refl

  -- the number on the right of the tree's left operand
  abbrev Operands : Option Pairing → Type 0
  Operands (Some p) = number_in (full p.right) ≡ number_in p.right
  Operands None = Unit {0}

  operands : (t : Tree) → IsHeld w b t → IsPlain t → Operands (pairing_in t)
  operands (Binary o a c) h p = (looks c h.1 p.1).number
  operands (Number n) h p = tt
  operands (Symbol n) h p = tt
  operands (CodeLabel l) h p = tt
  operands (Read c) h p = tt
  operands (Load d a) h p = tt
  operands (Unary o a) h p = tt
  operands NoPair h p = tt
  operands (AnyNumber n) h p = tt
  operands (AnyName n) h p = tt

  join_made : (o : BinOp) (p : Option Pairing) (y : Option ℕ) → Operands p → join_by w o (option_map pairing_full p) y ≡ join_by w o p y
  join_made o (Some p) (Some d) e = ap (λ c. join_two w o p.operator c d) e
  join_made o (Some p) None e = refl
  join_made o None y e = refl

  extend_made : (o : UnOp) (u : Option Under) (p : Option Pairing) → Operands p
      → extend_by o (option_map under_full u) (option_map pairing_full p) ≡ made (extend_by o u p)
  extend_made Sxb (Some u) p e = extend_one_made u.operator u.operand
  extend_made Sxb None (Some p) e = ap (extend_two p.operator (full p.left)) e ∙ extend_two_made p.operator p.left (number_in p.right)
  extend_made Sxb None None e = refl
  extend_made _ u p e = refl

  left_made : (a : Tree) → IsHeld w b a → IsPlain a → left_of (full a) ≡ full (left_of a)
  left_made (Binary o a c) h p = refl
  left_made (Number n) h p = refl
  left_made (Symbol n) h p = refl
  left_made (CodeLabel l) h p = refl
  left_made (Read (RegisterHole k)) h p =
      register_is (λ u. left_of u ≡ u) (Read (RegisterHole k)) (slice_get b k) h (λ n. refl) (λ n. refl)
  left_made (Read (Hard n)) h p = refl
  left_made (Read (Temp n)) h p = refl
  left_made (Read (Flag n)) h p = refl
  left_made (Read Pc) h p = refl
  left_made (Read Input) h p = refl
  left_made (Read Output) h p = refl
  left_made (Read Halt) h p = refl
  left_made (Load d a) h p = refl
  left_made (Unary o a) h p = refl
  left_made NoPair h p = refl
  left_made (AnyNumber n) h p = absurd p
  left_made (AnyName k) h p = name_is (λ u. left_of u ≡ u) (AnyName k) (slice_get b k) h (λ n. refl) (λ l. refl)

  -- the rules on the filled tree, beside those on the tree
  record Rules (t u : Tree) : Type 0 where
    fold : fold_rule w u ≡ made (fold_rule w t)
    swap : swap_rule u ≡ made (swap_rule t)
    mirror : mirror_rule u ≡ made (mirror_rule t)
    minus : minus_rule w u ≡ made (minus_rule w t)
    negate : negate_rule u ≡ made (negate_rule t)
    join : join_rule w u ≡ made (join_rule w t)
    neutral : neutral_rule w u ≡ made (neutral_rule w t)
    twice : twice_rule u ≡ made (twice_rule t)
    extend : extend_rule u ≡ made (extend_rule t)
    cut : cut_rule u ≡ made (cut_rule t)
    byte : byte_rule u ≡ made (byte_rule t)
    pair : pair_rule u ≡ made (pair_rule t)
    when : when_rule u ≡ made (when_rule t)

  chained : (x x' y y' : Option Tree) → x ≡ made x' → y ≡ made y' → or_else x y ≡ made (or_else x' y')
  chained x (Some t) y y' e f = ap (λ o. or_else o y) e
  chained x None y y' e f = ap (λ o. or_else o y) e ∙ f

  step_by : (t u : Tree) → Rules t u → step w u ≡ made (step w t)
  unfolding step
  step_by t u r =
      chained _ (fold_rule w t) _ _ r.fold (chained _ (swap_rule t) _ _ r.swap (chained _ (mirror_rule t) _ _ r.mirror (chained _ (minus_rule w t) _ _ r.minus
      (chained _ (negate_rule t) _ _ r.negate (chained _ (join_rule w t) _ _ r.join (chained _ (neutral_rule w t) _ _ r.neutral (chained _ (twice_rule t) _ _ r.twice
      (chained _ (extend_rule t) _ _ r.extend (chained _ (cut_rule t) _ _ r.cut (chained _ (byte_rule t) _ _ r.byte (chained _ (pair_rule t) _ _ r.pair r.when)))))))))))

  fold_unary : (o : UnOp) (a : Tree) → IsHeld w b a → IsPlain a → fold_rule w (Unary o (full a)) ≡ made (fold_rule w (Unary o a))
  unfolding fold_rule
  fold_unary o a h p =
      ap number_if (one_is w o (full a) ∙ (ap (fold_one w o) (looks a h p).number ∙ sym (one_is w o a))) ∙ numbered_made (folded w (Unary o a))

  fold_binary : (o : BinOp) (a c : Tree) → IsHeld w b (Binary o a c) → IsPlain (Binary o a c) → fold_rule w (Binary o (full a) (full c)) ≡ made (fold_rule w (Binary o a c))
  unfolding fold_rule
  fold_binary o a c h p =
      ap number_if (two_is w o (full a) (full c) ∙ (ap (λ x. fold_two w o x (number_in (full c))) (looks a h.0 p.0).number
      ∙ (ap (fold_two w o (number_in a)) (looks c h.1 p.1).number ∙ sym (two_is w o a c)))) ∙ numbered_made (folded w (Binary o a c))

  swap_binary : (o : BinOp) (a c : Tree) → IsHeld w b (Binary o a c) → swap_rule (Binary o (full a) (full c)) ≡ made (swap_rule (Binary o a c))
  unfolding swap_rule
  swap_binary o a c h =
      ap (λ x. cond (commutes o && x && not (is_constant (full c))) (Some (Binary o (full c) (full a))) None) (constant_filled w b a h.0)
      ∙ (ap (λ x. cond (commutes o && is_constant a && not x) (Some (Binary o (full c) (full a))) None) (constant_filled w b c h.1)
      ∙ cond_made (commutes o && is_constant a && not (is_constant c)) (Some (Binary o c a)) None)

  mirror_binary : (o : BinOp) (a c : Tree) → IsHeld w b (Binary o a c) → mirror_rule (Binary o (full a) (full c)) ≡ made (mirror_rule (Binary o a c))
  unfolding mirror_rule
  mirror_binary (Cmp r) a c h =
      ap (λ x. cond (is_order r && x && not (is_constant (full c))) (Some (Binary (Cmp (mirrored r)) (full c) (full a))) None) (constant_filled w b a h.0)
      ∙ (ap (λ x. cond (is_order r && is_constant a && not x) (Some (Binary (Cmp (mirrored r)) (full c) (full a))) None) (constant_filled w b c h.1)
      ∙ cond_made (is_order r && is_constant a && not (is_constant c)) (Some (Binary (Cmp (mirrored r)) c a)) None)
  mirror_binary _ a c h = refl

  join_binary : (o : BinOp) (a c : Tree) → IsHeld w b (Binary o a c) → IsPlain (Binary o a c) → join_rule w (Binary o (full a) (full c)) ≡ made (join_rule w (Binary o a c))
  unfolding join_rule
  join_binary o a c h p =
      ap (λ x. binary_if o x (joined_number w o (full a) (full c))) (left_made a h.0 p.0)
      ∙ (ap (binary_if o (full (left_of a))) (join_is w o (full a) (full c)
      ∙ (ap (λ x. join_by w o x (number_in (full c))) (looks a h.0 p.0).pairing
      ∙ (ap (join_by w o (option_map pairing_full (pairing_in a))) (looks c h.1 p.1).number
      ∙ (join_made o (pairing_in a) (number_in c) (operands a h.0 p.0) ∙ sym (join_is w o a c)))))
      ∙ binary_made o (left_of a) (joined_number w o a c))

  unary_rules : (o : UnOp) (a : Tree) → IsHeld w b a → IsPlain a → Rules (Unary o a) (Unary o (full a))
  unfolding swap_rule mirror_rule minus_rule negate_rule join_rule neutral_rule cut_rule byte_rule when_rule
  unary_rules o a h p =
      let k = looks a h p in
      record {
        fold = fold_unary o a h p;
        swap = refl;
        mirror = refl;
        minus = refl;
        negate = refl;
        join = refl;
        neutral = refl;
        twice = twice_is o (full a) ∙ (ap (twice_by o) k.under ∙ (twice_under o (under_in a) ∙ ap made (sym (twice_is o a))));
        extend = extend_is o (full a) ∙ (ap (λ x. extend_by o x (pairing_in (full a))) k.under ∙ (ap (extend_by o (option_map under_full (under_in a))) k.pairing
            ∙ (extend_made o (under_in a) (pairing_in a) (operands a h p) ∙ ap made (sym (extend_is o a)))));
        cut = refl;
        byte = refl;
        pair = pair_is o (full a) ∙ (ap (pair_by o) k.pairing ∙ (pair_made o (pairing_in a) ∙ ap made (sym (pair_is o a))));
        when = refl;
      }

  binary_rules : (o : BinOp) (a c : Tree) → IsHeld w b (Binary o a c) → IsPlain (Binary o a c) → Rules (Binary o a c) (Binary o (full a) (full c))
  unfolding twice_rule extend_rule pair_rule
  binary_rules o a c h p =
      let i = looks a h.0 p.0 in
      let j = looks c h.1 p.1 in
      record {
        fold = fold_binary o a c h p;
        swap = swap_binary o a c h;
        mirror = mirror_binary o a c h;
        minus = minus_is w o (full a) (full c) ∙ (ap (minus_by w o (full a)) j.number ∙ (minus_made o a (number_in c) ∙ ap made (sym (minus_is w o a c))));
        negate = negate_is o (full a) (full c) ∙ (ap (λ x. negate_by o x (full c)) i.number ∙ (negate_made o (number_in a) c ∙ ap made (sym (negate_is o a c))));
        join = join_binary o a c h p;
        neutral = neutral_is w o (full a) (full c) ∙ (ap (neutral_by w o (full a)) j.number ∙ (neutral_made o a (number_in c) ∙ ap made (sym (neutral_is w o a c))));
        twice = refl;
        extend = refl;
        cut = cut_is o (full a) (full c) ∙ (ap (λ x. cut_by o x (number_in (full c))) i.under ∙ (ap (cut_by o (option_map under_full (under_in a))) j.number
            ∙ (cut_made o (under_in a) (number_in c) ∙ ap made (sym (cut_is o a c)))));
        byte = byte_is o (full a) (full c) ∙ (ap (λ x. byte_by o x (number_in (full c))) i.loading ∙ (ap (byte_by o (option_map loading_full (loading_in a))) j.number
            ∙ (byte_made o (loading_in a) (number_in c) ∙ ap made (sym (byte_is o a c)))));
        pair = refl;
        when = when_is o (full a) (full c) ∙ (ap (λ x. when_by o x (full c)) i.number ∙ (when_made o (number_in a) c ∙ ap made (sym (when_is o a c))));
      }

  load_rules : (d : Width) (a : Tree) → Rules (Load d a) (Load d (full a))
  unfolding fold_rule swap_rule mirror_rule minus_rule negate_rule join_rule neutral_rule twice_rule extend_rule cut_rule byte_rule pair_rule when_rule
  load_rules d a = record {
    fold = refl;
    swap = refl;
    mirror = refl;
    minus = refl;
    negate = refl;
    join = refl;
    neutral = refl;
    twice = refl;
    extend = refl;
    cut = refl;
    byte = refl;
    pair = refl;
    when = refl;
  }

  number_none : (n : ℕ) → step w (Number n) ≡ None
  unfolding step fold_rule swap_rule mirror_rule minus_rule negate_rule join_rule neutral_rule twice_rule extend_rule cut_rule byte_rule pair_rule when_rule
  number_none n = refl

  symbol_none : (n : ℕ) → step w (Symbol n) ≡ None
  unfolding step fold_rule swap_rule mirror_rule minus_rule negate_rule join_rule neutral_rule twice_rule extend_rule cut_rule byte_rule pair_rule when_rule
  symbol_none n = refl

  label_none : (l : Lab) → step w (CodeLabel l) ≡ None
  unfolding step fold_rule swap_rule mirror_rule minus_rule negate_rule join_rule neutral_rule twice_rule extend_rule cut_rule byte_rule pair_rule when_rule
  label_none l = refl

  read_none : (c : Cell) → step w (Read c) ≡ None
  unfolding step fold_rule swap_rule mirror_rule minus_rule negate_rule join_rule neutral_rule twice_rule extend_rule cut_rule byte_rule pair_rule when_rule
  read_none c = refl

  pairless_none : step w NoPair ≡ None
  unfolding step fold_rule swap_rule mirror_rule minus_rule negate_rule join_rule neutral_rule twice_rule extend_rule cut_rule byte_rule pair_rule when_rule
  pairless_none = refl

  name_none : (n : ℕ) → step w (AnyName n) ≡ None
  unfolding step fold_rule swap_rule mirror_rule minus_rule negate_rule join_rule neutral_rule twice_rule extend_rule cut_rule byte_rule pair_rule when_rule
  name_none n = refl

  still : (t u : Tree) → step w t ≡ None → step w u ≡ None → step w u ≡ made (step w t)
  still t u e f = f ∙ ap made (sym e)

  step_full : (t : Tree) → IsHeld w b t → IsPlain t → step w (full t) ≡ made (step w t)
  step_full (Number n) h p = still _ _ (number_none n) (number_none n)
  step_full (Symbol n) h p = still _ _ (symbol_none n) (symbol_none n)
  step_full (CodeLabel l) h p = still _ _ (label_none l) (label_none l)
  step_full (Read (RegisterHole k)) h p =
      register_is (λ u. step w u ≡ made (step w (Read (RegisterHole k)))) (Read (RegisterHole k)) (slice_get b k) h
      (λ n. still (Read (RegisterHole k)) (Read (Hard n)) (read_none (RegisterHole k)) (read_none (Hard n)))
      (λ n. still (Read (RegisterHole k)) (Read (Temp n)) (read_none (RegisterHole k)) (read_none (Temp n)))
  step_full (Read (Hard n)) h p = still _ _ (read_none (Hard n)) (read_none (Hard n))
  step_full (Read (Temp n)) h p = still _ _ (read_none (Temp n)) (read_none (Temp n))
  step_full (Read (Flag n)) h p = still _ _ (read_none (Flag n)) (read_none (Flag n))
  step_full (Read Pc) h p = still _ _ (read_none Pc) (read_none Pc)
  step_full (Read Input) h p = still _ _ (read_none Input) (read_none Input)
  step_full (Read Output) h p = still _ _ (read_none Output) (read_none Output)
  step_full (Read Halt) h p = still _ _ (read_none Halt) (read_none Halt)
  step_full (Load d a) h p = step_by (Load d a) (Load d (full a)) (load_rules d a)
  step_full (Unary o a) h p = step_by (Unary o a) (Unary o (full a)) (unary_rules o a h p)
  step_full (Binary o a c) h p = step_by (Binary o a c) (Binary o (full a) (full c)) (binary_rules o a c h p)
  step_full NoPair h p = still _ _ pairless_none pairless_none
  step_full (AnyNumber n) h p = absurd p
  step_full (AnyName k) h p =
      name_is (λ u. step w u ≡ made (step w (AnyName k))) (AnyName k) (slice_get b k) h
      (λ n. still (AnyName k) (Symbol n) (name_none k) (symbol_none n)) (λ l. still (AnyName k) (CodeLabel l) (name_none k) (label_none l))

  -- as many steps

  constant_weight_is : (t : Tree) → constant_weight t ≡ cond (is_constant t) 1 0
  constant_weight_is (Number n) = refl
  constant_weight_is (AnyNumber n) = refl
  constant_weight_is _ = refl

  constant_weight_full : (t : Tree) → IsHeld w b t → constant_weight (full t) ≡ constant_weight t
  constant_weight_full t h = constant_weight_is (full t) ∙ (ap (λ x. cond x 1 0) (constant_filled w b t h) ∙ sym (constant_weight_is t))

  weight_full : (t : Tree) → IsHeld w b t → weight (full t) ≡ weight t
  weight_full (Load d a) h = ap (λ n. n + 1) (weight_full a h)
  weight_full (Unary o a) h = ap (λ n. n + 3) (weight_full a h)
  weight_full (Binary o a c) h =
      ap (λ n. n + weight (full c) + sub_weight o + constant_weight (full a) + 3) (weight_full a h.0)
      ∙ (ap (λ n. weight a + n + sub_weight o + constant_weight (full a) + 3) (weight_full c h.1)
      ∙ ap (λ n. weight a + weight c + sub_weight o + n + 3) (constant_weight_full a h.0))
  weight_full (Number n) h = refl
  weight_full (Symbol n) h = refl
  weight_full (CodeLabel l) h = refl
  weight_full (Read (RegisterHole k)) h = register_is (λ u. weight u ≡ 1) (Read (RegisterHole k)) (slice_get b k) h (λ n. refl) (λ n. refl)
  weight_full (Read (Hard n)) h = refl
  weight_full (Read (Temp n)) h = refl
  weight_full (Read (Flag n)) h = refl
  weight_full (Read Pc) h = refl
  weight_full (Read Input) h = refl
  weight_full (Read Output) h = refl
  weight_full (Read Halt) h = refl
  weight_full NoPair h = refl
  weight_full (AnyNumber k) h = word_is w (λ u. weight u ≡ 1) (AnyNumber k) (slice_get b k) h (λ n l. refl)
  weight_full (AnyName k) h = name_is (λ u. weight u ≡ 1) (AnyName k) (slice_get b k) h (λ n. refl) (λ l. refl)

  plain_kept : (t u : Tree) → Rewrites w t u → IsPlain t → IsPlain u
  plain_kept _ _ (folds o a c v e) h = tt
  plain_kept _ _ (folds_one o a v e) h = tt
  plain_kept _ _ (swaps o a c e k l) h = (h.1, h.0)
  plain_kept _ _ (adds a c) h = h
  plain_kept _ _ (joins o p a c d v e) h = (h.0.0, tt)
  plain_kept _ _ (drops o a c e) h = h.0
  plain_kept _ _ (compares r a c) h = h
  plain_kept _ _ (mirrors r a c m k l) h = (h.1, h.0)
  plain_kept _ _ (negates a c e) h = h.1
  plain_kept _ _ (twice_neg a) h = h
  plain_kept _ _ (twice_not a) h = h
  plain_kept _ _ (extends a) h = h
  plain_kept _ _ (extends_low a c e) h = h.0
  plain_kept _ _ (cuts a c e) h = h
  plain_kept _ _ (bytes a c e) h = h.0
  plain_kept _ _ (goes a c e) h = h.1

  -- a hole for a number never goes
  plain_back : (t u : Tree) → Rewrites w t u → IsPlain u → IsPlain t
  plain_back _ _ (folds o a c v e) h = (tt, tt)
  plain_back _ _ (folds_one o a v e) h = tt
  plain_back _ _ (swaps o a c e k l) h = (h.1, h.0)
  plain_back _ _ (adds a c) h = h
  plain_back _ _ (joins o p a c d v e) h = ((h.0, tt), tt)
  plain_back _ _ (drops o a c e) h = (h, tt)
  plain_back _ _ (compares r a c) h = h
  plain_back _ _ (mirrors r a c m k l) h = (h.1, h.0)
  plain_back _ _ (negates a c e) h = (tt, h)
  plain_back _ _ (twice_neg a) h = h
  plain_back _ _ (twice_not a) h = h
  plain_back _ _ (extends a) h = h
  plain_back _ _ (extends_low a c e) h = (h, tt)
  plain_back _ _ (cuts a c e) h = h
  plain_back _ _ (bytes a c e) h = (h, tt)
  plain_back _ _ (goes a c e) h = (tt, h)

  finish_back : (t : Tree) → IsPlain (finish w t) → IsPlain t
  finish_back t = finish_keeps w (λ u. IsPlain u → IsPlain t) (λ x y r k q. k (plain_back x y r q)) t (λ q. q)

  pub norm_back : (t : Tree) → IsPlain (norm w t) → IsPlain t
  norm_back (Load d a) p = norm_back a (finish_back (Load d (norm w a)) p)
  norm_back (Unary o a) p = norm_back a (finish_back (Unary o (norm w a)) p)
  norm_back (Binary o a c) p = let q = finish_back (Binary o (norm w a) (norm w c)) p in (norm_back a q.0, norm_back c q.1)
  norm_back (Number n) p = p
  norm_back (Symbol n) p = p
  norm_back (CodeLabel l) p = p
  norm_back (Read c) p = p
  norm_back NoPair p = p
  norm_back (AnyNumber n) p = p
  norm_back (AnyName n) p = p

  record Both (t : Tree) : Type 0 where
    held : IsHeld w b t
    plain : IsPlain t

  both_kept : (t u : Tree) → Rewrites w t u → Both t → Both u
  both_kept t u r h = record { held = held_kept w b t u r h.held; plain = plain_kept t u r h.plain }

  finish_both : (t : Tree) → Both t → Both (finish w t)
  finish_both t h = finish_keeps w Both both_kept t h

  norm_both : (t : Tree) → IsHeld w b t → IsPlain t → Both (norm w t)
  norm_both (Load d a) h p = let x = norm_both a h p in finish_both (Load d (norm w a)) (record { held = x.held; plain = x.plain })
  norm_both (Unary o a) h p = let x = norm_both a h p in finish_both (Unary o (norm w a)) (record { held = x.held; plain = x.plain })
  norm_both (Binary o a c) h p =
      let x = norm_both a h.0 p.0 in
      let y = norm_both c h.1 p.1 in
      finish_both (Binary o (norm w a) (norm w c)) (record { held = (x.held, y.held); plain = (x.plain, y.plain) })
  norm_both (Number n) h p = record { held = h; plain = p }
  norm_both (Symbol n) h p = record { held = h; plain = p }
  norm_both (CodeLabel l) h p = record { held = h; plain = p }
  norm_both (Read c) h p = record { held = h; plain = p }
  norm_both NoPair h p = record { held = h; plain = p }
  norm_both (AnyNumber n) h p = absurd p
  norm_both (AnyName n) h p = record { held = h; plain = p }

  steps_full : (n : ℕ) (t : Tree) → Both t → steps w n (full t) ≡ full (steps w n t)
  steps_full zero t h = refl
  steps_full (suc n) t h =
      ap (λ o. follow o (full t) (steps w n)) (step_full t h.held h.plain)
      ∙ go (step w t) (λ u e. steps_full n u (both_kept t u (step_sound w t u e) h))
    where
      go : (o : Option Tree) → ((u : Tree) → o ≡ Some u → steps w n (full u) ≡ full (steps w n u))
          → follow (made o) (full t) (steps w n) ≡ full (follow o t (steps w n))
      go (Some u) k = k u refl
      go None k = refl

  finish_full : (t : Tree) → Both t → finish w (full t) ≡ full (finish w t)
  unfolding finish
  finish_full t h = ap (λ n. steps w n (full t)) (weight_full t h.held) ∙ steps_full (weight t) t h

  pub norm_full : (t : Tree) → IsHeld w b t → IsPlain t → norm w (filled b t) ≡ filled b (norm w t)
  norm_full (Load d a) h p =
      let x = norm_both a h p in
      ap (λ u. finish w (Load d u)) (norm_full a h p) ∙ finish_full (Load d (norm w a)) (record { held = x.held; plain = x.plain })
  norm_full (Unary o a) h p =
      let x = norm_both a h p in
      ap (λ u. finish w (Unary o u)) (norm_full a h p) ∙ finish_full (Unary o (norm w a)) (record { held = x.held; plain = x.plain })
  norm_full (Binary o a c) h p =
      let x = norm_both a h.0 p.0 in
      let y = norm_both c h.1 p.1 in
      ap (λ u. finish w (Binary o u (norm w (full c)))) (norm_full a h.0 p.0)
      ∙ (ap (λ u. finish w (Binary o (full (norm w a)) u)) (norm_full c h.1 p.1)
      ∙ finish_full (Binary o (norm w a) (norm w c)) (record { held = (x.held, y.held); plain = (x.plain, y.plain) }))
  norm_full (Number n) h p = refl
  norm_full (Symbol n) h p = refl
  norm_full (CodeLabel l) h p = refl
  norm_full (Read (RegisterHole k)) h p = register_is (λ u. norm w u ≡ u) (Read (RegisterHole k)) (slice_get b k) h (λ n. refl) (λ n. refl)
  norm_full (Read (Hard n)) h p = refl
  norm_full (Read (Temp n)) h p = refl
  norm_full (Read (Flag n)) h p = refl
  norm_full (Read Pc) h p = refl
  norm_full (Read Input) h p = refl
  norm_full (Read Output) h p = refl
  norm_full (Read Halt) h p = refl
  norm_full NoPair h p = refl
  norm_full (AnyNumber n) h p = absurd p
  norm_full (AnyName k) h p = name_is (λ u. norm w u ≡ u) (AnyName k) (slice_get b k) h (λ n. refl) (λ l. refl)

pub form_filled : FormIsFilled
form_filled w b t h p = norm_full w b t h (norm_back w b t p)
