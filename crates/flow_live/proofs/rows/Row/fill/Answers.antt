use Rattle.std.proofs.Common.{◌≡◌, ◌<◌, List, ap, length, refl, subst, sym, ◌∙◌}
use Rattle.std.specs.Prelude.{ℕ, true}
use Rattle.std.proofs.lemmas.List.{with_items_is}
use Rattle.flow_live.specs.Rows.{Becomes, bits_in}
use Rattle.flow_live.proofs.Cells.{filled_by}
use Rattle.flow_live.proofs.rows.Row.fill.Goals as goal

pub returns : goal.returns
returns c =
    subst (λ (xs : List ℕ). Becomes (λ x. true) (bits_in c.args.self.now) (record { hard = 18446744073709551615; flags = 255; temps = xs }))
    (sym (with_items_is c.args.self.now.temporaries c.fill.new.self (long ∙ sym c.args.self.now.temporaries.ok.0)))
    (filled_by (bits_in c.args.self.now) c.fill.new.self long (λ k d l. c.fill.ensures.clones k d (subst (λ (n : ℕ). k < n) c.fill.ensures.len l) refl))
  where
    long : length c.fill.new.self ≡ length c.args.self.now.temporaries.items
    long = c.fill.ensures.len ∙ ap length c.as_mut_slice.ensures.value
