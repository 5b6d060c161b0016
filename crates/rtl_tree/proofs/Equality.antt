-- The tests of equality hold exactly at equal values.
use Rattle.std.proofs.Common.{◌≡◌, ◌&&◌, Bool, true, false, refl, ap, arith}
use Rattle.std.proofs.lemmas.Bool.Decides.{nat_tests}
use Rattle.rtl_word.specs.declared.Rel.{Rel}
use Rattle.rtl_word.specs.declared.Rel.TheVariants.{Eq, Ne, Lt, Le, Gt, Ge, Ltu, Leu, Gtu, Geu}
use Rattle.rtl_tree.specs.declared.cells.Cell.{Cell}
use Rattle.rtl_tree.specs.declared.cells.Cell.TheVariants.{Hard, Temp, Flag, Pc, Input, Output, Halt, Hole}
use Rattle.rtl_tree.specs.declared.cells.Lab.{Lab}
use Rattle.rtl_tree.specs.declared.cells.Lab.TheVariants.{Block, Function}
use Rattle.rtl_tree.specs.declared.expressions.Width.{Width}
use Rattle.rtl_tree.specs.declared.expressions.Width.TheVariants.{Byte, Full}
use Rattle.rtl_tree.specs.declared.expressions.UnOp.{UnOp}
use Rattle.rtl_tree.specs.declared.expressions.UnOp.TheVariants.{Neg, Not, Sxb, Test}
use Rattle.rtl_tree.specs.declared.expressions.BinOp.{BinOp}
use Rattle.rtl_tree.specs.declared.expressions.BinOp.TheVariants.{Add, Sub, Mul, Div, Divu, Rem, Remu, And, Or, Xor, Shl, Shr, Shru, Cmp, Pair, When}
use Rattle.rtl_tree.specs.Trees.{Tree, Number, Symbol, CodeLabel, Read, Load, Unary, Binary, NoPair, AnyNumber, AnyName}
use Rattle.rtl_tree.specs.Same.{same_cell, same_label, same_width, same_relation, same_unary, same_binary, same_tree}

pub same_cell-is : (c d : Cell) → same_cell c d ≡ true → c ≡ d
same_cell-is (Hard m) (Hard n) e = ap Hard (grind (arith, nat_tests, e))
same_cell-is (Temp m) (Temp n) e = ap Temp (grind (arith, nat_tests, e))
same_cell-is (Flag m) (Flag n) e = ap Flag (grind (arith, nat_tests, e))
same_cell-is Pc Pc e = refl
same_cell-is Input Input e = refl
same_cell-is Output Output e = refl
same_cell-is Halt Halt e = refl
same_cell-is (Hole m) (Hole n) e = ap Hole (grind (arith, nat_tests, e))
same_cell-is _ _ e = absurd (let no : false ≡ true = e in cc)

pub same_cell-own : (c : Cell) → same_cell c c ≡ true
same_cell-own (Hard n) = grind (arith, nat_tests)
same_cell-own (Temp n) = grind (arith, nat_tests)
same_cell-own (Flag n) = grind (arith, nat_tests)
same_cell-own Pc = refl
same_cell-own Input = refl
same_cell-own Output = refl
same_cell-own Halt = refl
same_cell-own (Hole n) = grind (arith, nat_tests)

pub same_label-is : (l m : Lab) → same_label l m ≡ true → l ≡ m
same_label-is (Block m) (Block n) e = ap Block (grind (arith, nat_tests, e))
same_label-is (Function m) (Function n) e = ap Function (grind (arith, nat_tests, e))
same_label-is _ _ e = absurd (let no : false ≡ true = e in cc)

pub same_label-own : (l : Lab) → same_label l l ≡ true
same_label-own (Block n) = grind (arith, nat_tests)
same_label-own (Function n) = grind (arith, nat_tests)

pub same_width-is : (v w : Width) → same_width v w ≡ true → v ≡ w
same_width-is Byte Byte e = refl
same_width-is Full Full e = refl
same_width-is _ _ e = absurd (let no : false ≡ true = e in cc)

pub same_width-own : (w : Width) → same_width w w ≡ true
same_width-own Byte = refl
same_width-own Full = refl

pub same_relation-is : (q r : Rel) → same_relation q r ≡ true → q ≡ r
same_relation-is Eq Eq e = refl
same_relation-is Ne Ne e = refl
same_relation-is Lt Lt e = refl
same_relation-is Le Le e = refl
same_relation-is Gt Gt e = refl
same_relation-is Ge Ge e = refl
same_relation-is Ltu Ltu e = refl
same_relation-is Leu Leu e = refl
same_relation-is Gtu Gtu e = refl
same_relation-is Geu Geu e = refl
same_relation-is _ _ e = absurd (let no : false ≡ true = e in cc)

pub same_relation-own : (r : Rel) → same_relation r r ≡ true
same_relation-own Eq = refl
same_relation-own Ne = refl
same_relation-own Lt = refl
same_relation-own Le = refl
same_relation-own Gt = refl
same_relation-own Ge = refl
same_relation-own Ltu = refl
same_relation-own Leu = refl
same_relation-own Gtu = refl
same_relation-own Geu = refl

pub same_unary-is : (o p : UnOp) → same_unary o p ≡ true → o ≡ p
same_unary-is Neg Neg e = refl
same_unary-is Not Not e = refl
same_unary-is Sxb Sxb e = refl
same_unary-is (Test q) (Test r) e = ap Test (same_relation-is q r e)
same_unary-is _ _ e = absurd (let no : false ≡ true = e in cc)

pub same_unary-own : (o : UnOp) → same_unary o o ≡ true
same_unary-own Neg = refl
same_unary-own Not = refl
same_unary-own Sxb = refl
same_unary-own (Test r) = same_relation-own r

pub same_binary-is : (o p : BinOp) → same_binary o p ≡ true → o ≡ p
same_binary-is Add Add e = refl
same_binary-is Sub Sub e = refl
same_binary-is Mul Mul e = refl
same_binary-is Div Div e = refl
same_binary-is Divu Divu e = refl
same_binary-is Rem Rem e = refl
same_binary-is Remu Remu e = refl
same_binary-is And And e = refl
same_binary-is Or Or e = refl
same_binary-is Xor Xor e = refl
same_binary-is Shl Shl e = refl
same_binary-is Shr Shr e = refl
same_binary-is Shru Shru e = refl
same_binary-is (Cmp q) (Cmp r) e = ap Cmp (same_relation-is q r e)
same_binary-is Pair Pair e = refl
same_binary-is When When e = refl
same_binary-is _ _ e = absurd (let no : false ≡ true = e in cc)

pub same_binary-own : (o : BinOp) → same_binary o o ≡ true
same_binary-own Add = refl
same_binary-own Sub = refl
same_binary-own Mul = refl
same_binary-own Div = refl
same_binary-own Divu = refl
same_binary-own Rem = refl
same_binary-own Remu = refl
same_binary-own And = refl
same_binary-own Or = refl
same_binary-own Xor = refl
same_binary-own Shl = refl
same_binary-own Shr = refl
same_binary-own Shru = refl
same_binary-own (Cmp r) = same_relation-own r
same_binary-own Pair = refl
same_binary-own When = refl

-- both sides of a conjunction that is true, and back
pub and_left : (a b : Bool) → (a && b) ≡ true → a ≡ true
and_left true b e = refl
and_left false b e = e

pub and_right : (a b : Bool) → (a && b) ≡ true → b ≡ true
and_right true b e = e
and_right false b e = absurd (let no : false ≡ true = e in cc)

pub and_both : (a b : Bool) → a ≡ true → b ≡ true → (a && b) ≡ true
and_both true b e f = f
and_both false b e f = e

pub same_tree-is : (a b : Tree) → same_tree a b ≡ true → a ≡ b
same_tree-is (Number m) (Number n) e = ap Number (grind (arith, nat_tests, e))
same_tree-is (Symbol m) (Symbol n) e = ap Symbol (grind (arith, nat_tests, e))
same_tree-is (CodeLabel l) (CodeLabel m) e = ap CodeLabel (same_label-is l m e)
same_tree-is (Read c) (Read d) e = ap Read (same_cell-is c d e)
same_tree-is (Load v a) (Load w b) e =
    let root = same_width-is v w (and_left (same_width v w) (same_tree a b) e) in
    let below = same_tree-is a b (and_right (same_width v w) (same_tree a b) e) in
    grind (arith, root, below)
same_tree-is (Unary o a) (Unary p b) e =
    let root = same_unary-is o p (and_left (same_unary o p) (same_tree a b) e) in
    let below = same_tree-is a b (and_right (same_unary o p) (same_tree a b) e) in
    grind (arith, root, below)
same_tree-is (Binary o a b) (Binary p c d) e =
    let root = same_binary-is o p (and_left (same_binary o p) (same_tree a c && same_tree b d) e) in
    let rest = and_right (same_binary o p) (same_tree a c && same_tree b d) e in
    let left = same_tree-is a c (and_left (same_tree a c) (same_tree b d) rest) in
    let right = same_tree-is b d (and_right (same_tree a c) (same_tree b d) rest) in
    grind (arith, root, left, right)
same_tree-is NoPair NoPair e = refl
same_tree-is (AnyNumber m) (AnyNumber n) e = ap AnyNumber (grind (arith, nat_tests, e))
same_tree-is (AnyName m) (AnyName n) e = ap AnyName (grind (arith, nat_tests, e))
same_tree-is _ _ e = absurd (let no : false ≡ true = e in cc)

pub same_tree-own : (a : Tree) → same_tree a a ≡ true
same_tree-own (Number n) = grind (arith, nat_tests)
same_tree-own (Symbol n) = grind (arith, nat_tests)
same_tree-own (CodeLabel l) = same_label-own l
same_tree-own (Read c) = same_cell-own c
same_tree-own (Load w a) = and_both (same_width w w) (same_tree a a) (same_width-own w) (same_tree-own a)
same_tree-own (Unary o a) = and_both (same_unary o o) (same_tree a a) (same_unary-own o) (same_tree-own a)
same_tree-own (Binary o a b) =
    and_both (same_binary o o) (same_tree a a && same_tree b b) (same_binary-own o)
    (and_both (same_tree a a) (same_tree b b) (same_tree-own a) (same_tree-own b))
same_tree-own NoPair = refl
same_tree-own (AnyNumber n) = grind (arith, nat_tests)
same_tree-own (AnyName n) = grind (arith, nat_tests)
