use Rattle.std.proofs.Common.{◌≡◌, ap, subst, sym, ◌∙◌}
use Rattle.std.specs.Prelude.{ℕ, ◌&&◌, List, bit_and, length}
use Rattle.std.proofs.lemmas.List.{with_items_is}
use Rattle.rtl_tree.specs.Sets.{CellBits, has_cell}
use Rattle.flow_live.specs.Rows.{Becomes, bits_in, has_temporary}
use Rattle.flow_live.proofs.Bits.{both_bits}
use Rattle.flow_live.proofs.Keeping.{kept_cells}
use Rattle.flow_live.proofs.rows.Row.keep.Goals as goal

pub returns-then-fell-clause-cells : goal.returns-then-fell-clause-cells
returns-then-fell-clause-cells c =
    subst (λ (xs : List ℕ). Becomes (λ x. has_cell (bits_in c.args.self.now) x && has_cell (bits_in c.args.other.now) x) (bits_in c.args.self.now) (kept xs))
    (sym (with_items_is c.args.self.now.temporaries c.keep_words-temporaries.new.words (long ∙ sym c.args.self.now.temporaries.ok.0)))
    (kept_cells (bits_in c.args.self.now) (bits_in c.args.other.now) (kept c.keep_words-temporaries.new.words) (λ n. both_bits c.args.self.now.registers c.args.other.now.registers n)
    (λ n. both_bits c.args.self.now.flags c.args.other.now.flags n) long
    (λ n. c.keep_words-temporaries.ensures.cells n
    ∙ ap (λ (xs : List ℕ). has_temporary xs n && has_temporary c.as_slice.result.now n) c.deref_mut.ensures.value
    ∙ ap (λ (xs : List ℕ). has_temporary c.args.self.now.temporaries.items n && has_temporary xs n) c.as_slice.ensures.value))
  where
    kept : List ℕ → CellBits
    kept xs = record { hard = bit_and c.args.self.now.registers c.args.other.now.registers; flags = bit_and c.args.self.now.flags c.args.other.now.flags; temps = xs }

    long : length c.keep_words-temporaries.new.words ≡ length c.args.self.now.temporaries.items
    long = c.keep_words-temporaries.ensures.words ∙ ap length c.deref_mut.ensures.value

pub returns-else-fell-clause-cells : goal.returns-else-fell-clause-cells
returns-else-fell-clause-cells c =
    subst (λ (xs : List ℕ). Becomes (λ x. has_cell (bits_in c.args.self.now) x && has_cell (bits_in c.args.other.now) x) (bits_in c.args.self.now) (kept xs))
    (sym (with_items_is c.args.self.now.temporaries c.keep_words-temporaries.new.words (long ∙ sym c.args.self.now.temporaries.ok.0)))
    (kept_cells (bits_in c.args.self.now) (bits_in c.args.other.now) (kept c.keep_words-temporaries.new.words) (λ n. both_bits c.args.self.now.registers c.args.other.now.registers n)
    (λ n. both_bits c.args.self.now.flags c.args.other.now.flags n) long
    (λ n. c.keep_words-temporaries.ensures.cells n
    ∙ ap (λ (xs : List ℕ). has_temporary xs n && has_temporary c.as_slice.result.now n) c.deref_mut.ensures.value
    ∙ ap (λ (xs : List ℕ). has_temporary c.args.self.now.temporaries.items n && has_temporary xs n) c.as_slice.ensures.value))
  where
    kept : List ℕ → CellBits
    kept xs = record { hard = bit_and c.args.self.now.registers c.args.other.now.registers; flags = bit_and c.args.self.now.flags c.args.other.now.flags; temps = xs }

    long : length c.keep_words-temporaries.new.words ≡ length c.args.self.now.temporaries.items
    long = c.keep_words-temporaries.ensures.words ∙ ap length c.deref_mut.ensures.value
