-- The first row that does a transfer, with its first binding, is the first instance that does it.
use Rattle.std.proofs.Common.{◌≡◌, ℕ, Bool, List, [], ◌∷◌, map, filter_map, slice_get, Option, Some, None, refl, sym, subst, ap, ◌∙◌}
use Rattle.std.specs.Prelude.{AllPairs, ◌≢◌, IfSome, IfNone, MatchOption}
use Rattle.std.specs.List.{cons_option}
use Rattle.rtl_tree.specs.Moves.{Goal, ToCell, ToMemory, Move}
use Rattle.rtl_tree.specs.Sets.{CellBits}
use Rattle.rtl_tree.specs.declared.cells.Cell.{Cell}
use Rattle.rtl_tree.specs.declared.cells.Cell.TheVariants.{Flag}
use Rattle.rtl_norm.specs.Transfers.{norm_goal, norm_moves}
use Rattle.md_rows.specs.declared.description.RawDescription.{RawDescription}
use Rattle.md_rows.specs.declared.row.Row.{Row}
use Rattle.md_rows.specs.declared.instance.Bound.{Bound}
use Rattle.md_rows.specs.declared.instance.Instance.{Instance}
use Rattle.md_rows.specs.Instances.{assigned_register, filled_goal, filled_move, effects_with, general_set, IsInstance}
use Rattle.md_match.specs.Searches.{Marks, no_marks, is_flag_of, is_idle}
use Rattle.md_match.specs.Does.{Does, assigned}
use Rattle.md_match.proofs.Barred.{idle_to_flags}
use Rattle.recogniser.specs.Choices.{Choice, TakesBy}
use Rattle.recogniser.specs.Recognising.{is_dead_flag, DoesTransfer, IsFirst}
use Rattle.recogniser.specs.Searching.{IsSound, IsFirstInstance, HasNone}

-- the normal form keeps the places that are cells, so it assigns the same registers

same_register : (w : ℕ) (b : List Bound) (g : Goal) → assigned_register (filled_goal b (norm_goal w g)) ≡ assigned_register (filled_goal b g)
same_register w b (ToCell c) = refl
same_register w b (ToMemory d a) = refl

same_registers : (w : ℕ) (b : List Bound) (ms : List Move)
    → filter_map (assigned b) (norm_moves w ms) ≡ filter_map (λ m. assigned_register m.to) (map (filled_move b) ms)
same_registers w b [] = refl
same_registers w b (m ∷ ms) =
    ap (λ (o : Option Cell). cons_option o (filter_map (assigned b) (norm_moves w ms))) (same_register w b m.to)
    ∙ ap (λ (cs : List Cell). cons_option (assigned_register (filled_goal b m.to)) cs) (same_registers w b ms)

different : (w : ℕ) (b : List Bound) (row : Row) → row.normal ≡ norm_moves w row.effects → AllPairs (λ c d. c ≢ d) (filter_map (assigned b) row.normal)
    → AllPairs (λ c d. c ≢ d) (filter_map (λ m. assigned_register m.to) (effects_with row b))
different w b row e h =
    subst (AllPairs (λ c d. c ≢ d)) (ap (λ (ms : List Move). filter_map (assigned b) ms) e ∙ same_registers w b row.effects) h

-- what is idle is to a dead flag

flag_same : (dead : CellBits) (g : Goal) → is_flag_of dead.flags g ≡ is_dead_flag dead g
flag_same dead (ToCell (Flag k)) = refl
flag_same dead _ = refl

abbrev to_dead : CellBits → Move → Bool
to_dead dead = λ r. is_dead_flag dead r.to

idle_is : (dead : CellBits) (flags : ℕ) → flags ≡ dead.flags → is_idle flags 0 ≡ to_dead dead
idle_is dead flags e =
    let same : (r : Move) → is_idle flags 0 r ≡ is_dead_flag dead r.to = λ r.
    idle_to_flags flags r ∙ (ap (λ (n : ℕ). is_flag_of n r.to) e ∙ flag_same dead r.to) in
    λ i r. same r i

same_row : (d : RawDescription) (i j : Instance) (row other : Row) → slice_get d.rows i.row ≡ Some row → slice_get d.rows j.row ≡ Some other
    → j.row ≡ i.row → other ≡ row
same_row d i j row other p q e =
    some_same other row (sym q ∙ (ap (λ (k : ℕ). slice_get d.rows k) e ∙ p))
  where
    some_same : (x y : Row) → Some x ≡ Some y → x ≡ y
    some_same x y e = cc

-- a row with an instance's binding does a transfer by a list of choices
record DoesWith (d : RawDescription) (dead : CellBits) (es : List Move) (j : Instance) (row : Row) (cs : List Choice) : Type 0 where
  marks : Marks
  does : Does d.word (general_set d.registers) row.holes (to_dead dead) row.normal es j.binding marks
  by : TakesBy row.normal j.binding no_marks es cs marks

first_by : (d : RawDescription) (dead : CellBits) (es : List Move) (i : Instance) → IsSound d → IsFirstInstance d (to_dead dead) es i → IsFirst d dead es i
first_by d dead es i sound f =
    let first = f.does.first in
    let read = (sound.rows i.row f.row f.has_row).read in
    record {
      choices = first.choices;
      does = record {
        row = f.row;
        instance = record {
          has_row = f.has_row;
          short = f.does.short;
          fit = first.does.fit;
          different = different d.word i.binding f.row read.normal first.does.different;
        };
        marks = first.marks;
        does = first.does;
        by = first.by;
      };
      first_row = λ j less x. f.before j.row x.row less x.instance.has_row x.instance.short j.binding x.marks x.does;
      first_choices = λ j cs same x earlier.
          (let h = subst (λ (r : Row). DoesWith d dead es j r cs) (same_row d i j f.row x.row f.has_row x.instance.has_row same)
          (record { marks = x.marks; does = x.does; by = x.by }) in
          first.first j.binding h.marks cs h.does h.by earlier);
    }

first_is : (d : RawDescription) (dead : CellBits) (flags : ℕ) (es : List Move) (i : Instance) → IsSound d → flags ≡ dead.flags
    → IsFirstInstance d (is_idle flags 0) es i → IsFirst d dead es i
first_is d dead flags es i sound e f =
    first_by d dead es i sound (subst (λ (idle : Move → Bool). IsFirstInstance d idle es i) (idle_is dead flags e) f)

none_is : (d : RawDescription) (dead : CellBits) (flags : ℕ) (es : List Move) → flags ≡ dead.flags → HasNone d (is_idle flags 0) es
    → (i : Instance) → DoesTransfer d dead es i → ⊥
none_is d dead flags es e f i x =
    let none = subst (λ (idle : Move → Bool). HasNone d idle es) (idle_is dead flags e) f in
    none i.row x.row x.instance.has_row x.instance.short i.binding x.marks x.does

-- what is found, or that there is none

found : (o : Option Instance) (N : Type 0) (F G : Instance → Type 0) → ((i : Instance) → F i → G i) → MatchOption o N F → IfSome o G
found (Some i) N F G f h = f i h
found None N F G f h = tt

missing : (o : Option Instance) (N M : Type 0) (F : Instance → Type 0) → (N → M) → MatchOption o N F → IfNone o M
missing (Some i) N M F f h = tt
missing None N M F f h = f h

pub some_first : (d : RawDescription) (dead : CellBits) (flags : ℕ) (es : List Move) (o : Option Instance) → IsSound d → flags ≡ dead.flags
    → MatchOption o (HasNone d (is_idle flags 0) es) (IsFirstInstance d (is_idle flags 0) es) → IfSome o (IsFirst d dead es)
some_first d dead flags es o sound e h =
    found o (HasNone d (is_idle flags 0) es) (IsFirstInstance d (is_idle flags 0) es) (IsFirst d dead es) (λ i f. first_is d dead flags es i sound e f) h

pub none_at_all : (d : RawDescription) (dead : CellBits) (flags : ℕ) (es : List Move) (o : Option Instance) → flags ≡ dead.flags
    → MatchOption o (HasNone d (is_idle flags 0) es) (IsFirstInstance d (is_idle flags 0) es) → IfNone o ((i : Instance) → ¬ DoesTransfer d dead es i)
none_at_all d dead flags es o e h =
    missing o (HasNone d (is_idle flags 0) es) ((i : Instance) → ¬ DoesTransfer d dead es i) (IsFirstInstance d (is_idle flags 0) es)
    (λ f i. none_is d dead flags es e f i) h

is_instance : (d : RawDescription) (dead : CellBits) (es : List Move) (i : Instance) → IsFirst d dead es i → (row : Row) × IsInstance d i row
is_instance d dead es i f = (f.does.row, f.does.instance)

pub some_instance : (d : RawDescription) (dead : CellBits) (es : List Move) (o : Option Instance) → IfSome o (IsFirst d dead es)
    → IfSome o (λ i. (row : Row) × IsInstance d i row)
some_instance d dead es (Some i) f = is_instance d dead es i f
some_instance d dead es None f = tt
