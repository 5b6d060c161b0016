-- Rows that are found for loads of homes and stores to them do as these; the offsets of homes.
use Rattle.std.proofs.Common.{◌≡◌, ℕ, ◌+◌, ◌-◌, ◌*◌, ◌/◌, ◌%◌, ◌<◌, ◌≤◌, inl, refl, subst, arith}
use Rattle.std.specs.Prelude.{length, slice_index}
use Rattle.rtl_word.proofs.Below.{by_size}
use Rattle.rtl_tree.specs.declared.cells.Cell.{Cell}
use Rattle.rtl_tree.specs.declared.expressions.Width.TheVariants.{Full}
use Rattle.rtl_tree.specs.Trees.{Read, Load as LoadTree}
use Rattle.md_shapes.specs.declared.patterns.Pattern.TheVariants.{LoadHome, StoreHome}
use Rattle.md_shapes.specs.Shapes.{set_cell, store_at, stack_plus}
use Rattle.md_covers.specs.Numbers.{IsOf, multiples}
use Rattle.md_said.specs.Sound.{SaidIsSound}
use Rattle.md_bounds.specs.Bounds.{SaidIsBounded}
use Rattle.md_filled.specs.Doing.{DoesAs}
use Rattle.temp_laws.proofs.Doing.{bodies_done}
use Rattle.row_colors.specs.Spilling.{LoadsDo, StoresDo, HomesAreNumbers}

pub loads : SaidIsSound → SaidIsBounded → LoadsDo
loads sound bounded w d frame at t register c o h e =
    subst (λ (x : Cell). DoesAs d.word (set_cell x (LoadTree Full (stack_plus frame at.number))) t.what) e
    (bodies_done sound bounded w d frame LoadHome at t c o h refl)

pub stores : SaidIsSound → SaidIsBounded → StoresDo
stores sound bounded w d frame at t register c o h e =
    subst (λ (x : Cell). DoesAs d.word (store_at Full (stack_plus frame at.number) (Read x)) t.what) e
    (bodies_done sound bounded w d frame StoreHome at t c o h refl)

abbrev HomeIsNumber : ℕ → Type 0
HomeIsNumber w =
    (first slots frame home kept : ℕ) → first % (w / 8) ≡ 0 → w / 8 * (3 + kept) ≤ first → first + w / 8 * slots ≤ frame → frame ≤ 32000 → home < slots
    → IsOf (multiples w 32255) (first + w / 8 * home)

home_short : HomeIsNumber 16
home_short first slots frame home kept a b c d e =
    record { place = first / 2 + home - 1; within = omega (arith, a, b, c, d, e); is = omega (arith, a, b, c, d, e) }

home_long : HomeIsNumber 32
home_long first slots frame home kept a b c d e =
    record { place = first / 4 + home - 1; within = omega (arith, a, b, c, d, e); is = omega (arith, a, b, c, d, e) }

pub homes : HomesAreNumbers
homes t r k size f inside =
    let n = by_size HomeIsNumber home_short home_long t.word size r.first_home r.slots r.frame (slice_index r.homes k) (length t.kept) f.home_words f.below_homes f.fits f.short inside in
    (inl n, inl n)
