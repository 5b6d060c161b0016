use Rattle.std.proofs.Common.{◌≡◌, ◌∙◌, sym, subst, true, false, ℕ, refl}
use Rattle.md_shapes.specs.Drawings.{frame_of, search_of}
use Rattle.md_shapes.specs.Shapes.{does_example}
use Rattle.md_covers.proofs.Decide.{not_covered, plain_covered, ranged_covered}
use Rattle.md_covers.proofs.covering.covers_pattern.Goals as goal

pub returns-then-not-does_shape : goal.returns-then-not-does_shape
returns-then-not-does_shape c =
    let t = c.args.t.now in
    let m = frame_of t.bits c.args.frame in
    let e = subst (λ (n : ℕ). does_example (search_of t) m c.args.pattern n ≡ false) c.first_number.ensures (sym c.does_shape.ensures ∙ c.if-not-does_shape.true) in
    ((λ h. (let q : false ≡ true = h in cc)), λ k. absurd (not_covered t m c.args.pattern c.requires e k))

pub returns-then-not-has_numbers : goal.returns-then-not-has_numbers
returns-then-not-has_numbers c =
    let t = c.args.t.now in
    let m = frame_of t.bits c.args.frame in
    let e = subst (λ (n : ℕ). does_example (search_of t) m c.args.pattern n ≡ true) c.first_number.ensures (sym c.does_shape.ensures ∙ c.if-not-does_shape.false) in
    ((λ h. plain_covered t m c.args.pattern c.requires e (sym (c.has_numbers.ensures t.bits) ∙ c.if-not-has_numbers.true)), λ k. refl)

pub returns-then-are_open : goal.returns-then-are_open
returns-then-are_open c =
    let t = c.args.t.now in
    let m = frame_of t.bits c.args.frame in
    let e = subst (λ (n : ℕ). does_example (search_of t) m c.args.pattern n ≡ true) c.first_number.ensures (sym c.does_shape.ensures ∙ c.if-not-does_shape.false) in
    let x = ranged_covered t m c.args.pattern c.requires e (sym (c.has_numbers.ensures t.bits) ∙ c.if-not-has_numbers.false) in
    ((λ h. x.0 (c.are_open.ensures.0 c.if-are_open.true, c.are_taken.ensures.0 h)), λ k. c.are_taken.ensures.1 (x.1 k).1)

pub returns-else-are_open : goal.returns-else-are_open
returns-else-are_open c =
    let t = c.args.t.now in
    let m = frame_of t.bits c.args.frame in
    let e = subst (λ (n : ℕ). does_example (search_of t) m c.args.pattern n ≡ true) c.first_number.ensures (sym c.does_shape.ensures ∙ c.if-not-does_shape.false) in
    let x = ranged_covered t m c.args.pattern c.requires e (sym (c.has_numbers.ensures t.bits) ∙ c.if-not-has_numbers.false) in
    ((λ h. (let q : false ≡ true = sym c.if-are_open.false ∙ h in cc)), λ k. c.are_open.ensures.1 (x.1 k).0)
