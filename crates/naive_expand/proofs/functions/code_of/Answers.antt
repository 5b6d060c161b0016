use Rattle.std.proofs.Common.{◌≡◌, ℕ, ◌+◌, List, ◌++◌, map, refl, sym, ap, subst, ◌∙◌}
use Rattle.temp_code.specs.declared.code.Code.{Code}
use Rattle.naive_code.specs.Functions.{numbers_from}
use Rattle.naive_builder.specs.Appending.{emitted, fixed_in}
use Rattle.naive_expr.proofs.Values.{if_ok_then}
use Rattle.naive_expand.specs.Codes.{HasNumbers}
use Rattle.naive_expand.proofs.Codes.{doable_ops, built_by, does_by}
use Rattle.naive_expand.proofs.functions.code_of.Goals as goal

pub append_all-requires-clause-doable : goal.append_all-requires-clause-doable
append_all-requires-clause-doable g c = doable_ops c.args.m.now c.args.out.now c.as_slice-2.result.now c.as_slice-2.ensures c.requires.doable

pub returns-clause-numbers : goal.returns-clause-numbers
returns-clause-numbers g c =
    let n = c.args.frame.now.scalars in
    let homes : c.append_all.new.b.homes ≡ numbers_from 16 n ++ map (λ d. 16 + n + d) c.args.out.now.depths =
    c.in_ok-append_all.ensures.homes ∙ (c.in_ok-take_homes.ensures.homes
    ∙ (ap (λ (xs : List ℕ). xs ++ (numbers_from 16 n ++ map (λ d. 16 + n + d) c.as_slice.result.now)) c.new-b.ensures.homes
    ∙ ap (λ (ds : List ℕ). numbers_from 16 n ++ map (λ d. 16 + n + d) ds) c.as_slice.ensures)) in
    if_ok_then _ _ c.finish.result
    (λ code e. subst (λ (k : Code). HasNumbers c.args.number c.args.params c.args.frame.now c.args.out.now.depths k) (sym e)
    (record { function = refl; params = refl; frame = refl; first_home = refl; slots = refl; homes = homes }))
    c.finish.ensures

pub returns-clause-does : goal.returns-clause-does
returns-clause-does g c =
    let d = c.args.m.now in
    let m = fixed_in d c.args.rows.now in
    if_ok_then _ _ c.finish.result
    (λ code e. does_by g.W.Word.BITS d m c.args.label c.args.out.now code c.finished_does_operations.ensures c.targets_are_sound.ensures c.word_bits.ensures.checked
    c.word_bits.ensures.size c.requires.rows.frame c.requires.once
    (built_by d m c.args.label c.args.out.now c.as_slice-2.result.now (emitted c.take_homes.new.b) (emitted c.append_all.new.b) code c.as_slice-2.ensures
    (c.in_ok-take_homes.ensures.code ∙ c.new-b.ensures.code) c.in_ok-append_all.ensures.code (ap (λ (k : Code). k.blocks) e)))
    c.finish.ensures

pub returns-clause-built : goal.returns-clause-built
returns-clause-built g c =
    if_ok_then _ _ c.finish.result
    (λ code e. built_by c.args.m.now (fixed_in c.args.m.now c.args.rows.now) c.args.label c.args.out.now c.as_slice-2.result.now (emitted c.take_homes.new.b)
    (emitted c.append_all.new.b) code c.as_slice-2.ensures (c.in_ok-take_homes.ensures.code ∙ c.new-b.ensures.code) c.in_ok-append_all.ensures.code
    (ap (λ (k : Code). k.blocks) e))
    c.finish.ensures
