-- Numbers are in range where the rules of the heading and of ranges are kept.
use Rattle.std.proofs.Common.{◌≡◌, ℕ, suc, ◌+◌, ◌<◌, ◌≤◌, ◌^◌, ℤ, pos, negsuc, Bool, true, false, not, ◌&&◌, ◌==◌, nat_lt, min, cond, List, [], ◌∷◌, ◌++◌, length, refl, sym, ap, ◌∙◌, arith, append_assoc, length-append}
use Rattle.std.specs.declared.option.Option.{Option}
use Rattle.std.specs.declared.option.Option.TheVariants.{Some, None}
use Rattle.std.specs.List.{filter_map, cons_option}
use Rattle.std.proofs.lemmas.Bool.Decides.{nat_tests}
use Rattle.md_text.specs.Forms.{Form, MemorySize, DataBegin, StackSize, RegisterLine, FlagLine}
use Rattle.md_text.specs.Declarations.{Declaration, Declared, number_of, first_number, memory_number, data_number, memory_in, data_in}
use Rattle.md_text.specs.Heading.{place_in_heading, breaks_heading, is_whole, is_from_to, most_memory, leaves_room, is_out_of_range}
use Rattle.md_text.specs.Accepted.{BadHeading, OutOfRange, elsewhere, unfinished}
use Rattle.md_rules.specs.Broken.{IsFirst}
use Rattle.md_expand.specs.Bits.{FitIn64}
use Rattle.md_expand.proofs.Unbroken.{unbroken}
use Rattle.md_expand.proofs.RegisterNumbers.{fit_in_64}
use Rattle.md_reader.specs.Ranges.{IsInRange, AreInRange}

both_hold : (a b : Bool) → not (a && b) ≡ false → (a ≡ true) × (b ≡ true)
both_hold true true e = (refl, refl)
both_hold true false e = absurd (cc)
both_hold false b e = absurd (cc)

holds : (b : Bool) → not b ≡ false → b ≡ true
holds true e = refl
holds false e = absurd (cc)

at_most : (low high : ℕ) (z : ℤ) → is_from_to low high z ≡ true → number_of z ≤ high
at_most low high (pos n) e = grind (arith, nat_tests)
at_most low high (negsuc n) e = absurd (cc)

most : (b : Bool) → cond b 65534 16777216 ≤ 16777216
most true = omega arith
most false = omega arith

memory_below : (w : ℕ) (z : ℤ) → not (is_whole w z && is_from_to 4096 (most_memory w) z) ≡ false → number_of z ≤ 16777216
memory_below w z e =
    let within = at_most 4096 (most_memory w) z (both_hold (is_whole w z) (is_from_to 4096 (most_memory w) z) e).1 in
    let bound = most (w == 16) in
    omega (arith, within, bound)

stack_parts : (w : ℕ) (before : List Declaration) (z : ℤ) → not (is_whole w z && (is_from_to 1024 1048576 z && leaves_room before z)) ≡ false
    → (number_of z ≤ 1048576) × (data_in before + number_of z < memory_in before)
stack_parts w before z e = by (is_whole w z) (is_from_to 1024 1048576 z) (leaves_room before z) refl refl e
  where
    by : (a b c : Bool) → is_from_to 1024 1048576 z ≡ b → leaves_room before z ≡ c → not (a && (b && c)) ≡ false
        → (number_of z ≤ 1048576) × (data_in before + number_of z < memory_in before)
    by true true true f g h = (at_most 1024 1048576 z f, grind (arith, nat_tests))
    by false b c f g h = absurd (cc)
    by true false c f g h = absurd (cc)
    by true true false f g h = absurd (cc)

-- what the rules keep of each declaration
record Kept (w : ℕ) (ds : List Declaration) : Type 0 where
  pub place : (before after : List Declaration) (d : Declaration) → ds ≡ before ++ d ∷ after → breaks_heading before d.form ≡ false
  pub range : (before after : List Declaration) (d : Declaration) → ds ≡ before ++ d ∷ after → is_out_of_range w before d.form ≡ false
  pub whole : 6 ≤ length ds

six : (n : ℕ) → (n < 6 → ⊥) → 6 ≤ n
six n h = by (nat_lt n 6) refl
  where
    by : (b : Bool) → nat_lt n 6 ≡ b → 6 ≤ n
    by true e = absurd (h (grind (arith, nat_tests)))
    by false e = grind (arith, nat_tests)

kept : (d : Declared) → IsFirst 1 10 d None → Kept d.width d.all
kept d first = record {
  place = unbroken breaks_heading d.all (λ line b. first BadHeading line (omega arith) (omega arith) (elsewhere line b));
  range = unbroken (is_out_of_range d.width) d.all (λ line b. first OutOfRange line (omega arith) (omega arith) b);
  whole = six (length d.all) (λ less. first BadHeading d.last (omega arith) (omega arith) (unfinished less));
}

in_place : (before : List Declaration) (f : Form) → breaks_heading before f ≡ false → place_in_heading f ≡ min (length before) 6
in_place before f e = grind (arith, nat_tests)

no_data : (f : Form) → place_in_heading f < 4 → data_number f ≡ None
no_data (DataBegin z) lt = absurd (omega (arith, lt))
no_data _ lt = refl

no_memory : (f : Form) → place_in_heading f < 3 → memory_number f ≡ None
no_memory (MemorySize z) lt = absurd (omega (arith, lt))
no_memory _ lt = refl

record HasMemory (f : Form) : Type 0 where
  pub number : ℤ
  pub is : memory_number f ≡ Some number
  pub below : number_of number ≤ 16777216

has_memory : (w : ℕ) (before : List Declaration) (f : Form) → is_out_of_range w before f ≡ false → place_in_heading f ≡ 3 → HasMemory f
has_memory w before (MemorySize z) r p = record { number = z; is = refl; below = memory_below w z r }
has_memory w before _ r p = absurd (omega (arith, p))

leaves : (w : ℕ) (before : List Declaration) (f : Form) → is_out_of_range w before f ≡ false → place_in_heading f ≡ 5 → data_in before < memory_in before
leaves w before (StackSize z) r p = let room = (stack_parts w before z r).1 in omega (arith, room)
leaves w before _ r p = absurd (omega (arith, p))

passed : (g : Declaration → Option ℤ) (d : Declaration) (ds : List Declaration) → g d ≡ None → filter_map g (d ∷ ds) ≡ filter_map g ds
passed g d ds e = ap (λ o. cons_option o (filter_map g ds)) e

-- the address at which data begins is below the size of memory, which stands before it
data_below :
    (a b c d : Declaration) (line : ℕ) (z : ℤ) (ms : List Declaration) → place_in_heading a.form ≡ 0 → place_in_heading b.form ≡ 1 → place_in_heading c.form ≡ 2 → place_in_heading d.form ≡ 3
    → HasMemory d.form → ms ≡ a ∷ b ∷ c ∷ d ∷ record { line = line; form = DataBegin z } ∷ [] → data_in ms < memory_in ms → number_of z < 2 ^ 32
data_below a b c d line z ms pa pb pc pd memory e lt =
    let last : List Declaration = record { line = line; form = DataBegin z } ∷ [] in
    let begin : Declaration → Option ℤ = λ x. data_number x.form in
    let size : Declaration → Option ℤ = λ x. memory_number x.form in
    let begins : data_in ms ≡ number_of z =
    ap data_in e
    ∙ ap first_number
    (passed begin a (b ∷ c ∷ d ∷ last) (no_data a.form (omega (arith, pa)))
    ∙ passed begin b (c ∷ d ∷ last) (no_data b.form (omega (arith, pb)))
    ∙ passed begin c (d ∷ last) (no_data c.form (omega (arith, pc)))
    ∙ passed begin d last (no_data d.form (omega (arith, pd)))) in
    let bytes : memory_in ms ≡ number_of memory.number =
    ap memory_in e
    ∙ ap first_number
    (passed size a (b ∷ c ∷ d ∷ last) (no_memory a.form (omega (arith, pa)))
    ∙ passed size b (c ∷ d ∷ last) (no_memory b.form (omega (arith, pb)))
    ∙ passed size c (d ∷ last) (no_memory c.form (omega (arith, pc))))
    ∙ ap (λ o. first_number (cons_option o (filter_map size last))) memory.is in
    omega (arith, begins, bytes, lt, memory.below)

-- the first five declarations, with what stands behind them
record Five (before after : List Declaration) : Type 0 where
  pub a : Declaration
  pub b : Declaration
  pub c : Declaration
  pub d : Declaration
  pub next : Declaration
  pub rest : List Declaration
  pub front : before ≡ a ∷ b ∷ c ∷ d ∷ []
  pub behind : after ≡ next ∷ rest

five : (before after : List Declaration) → length before ≡ 4 → 0 < length after → Five before after
five (a ∷ b ∷ c ∷ d ∷ []) (next ∷ rest) e lt = record { a = a; b = b; c = c; d = d; next = next; rest = rest; front = refl; behind = refl }
five (a ∷ b ∷ c ∷ d ∷ []) [] e lt = absurd (omega (arith, lt))
five [] after e lt = absurd (omega (arith, e))
five (a ∷ []) after e lt = absurd (omega (arith, e))
five (a ∷ b ∷ []) after e lt = absurd (omega (arith, e))
five (a ∷ b ∷ c ∷ []) after e lt = absurd (omega (arith, e))
five (a ∷ b ∷ c ∷ d ∷ x ∷ xs) after e lt = absurd (omega (arith, e))

data_in_range :
    (w : ℕ) (ds before after : List Declaration) (line : ℕ) (z : ℤ) → Kept w ds → ds ≡ before ++ record { line = line; form = DataBegin z } ∷ after → number_of z < 2 ^ 32
data_in_range w ds before after line z k split =
    let place : 4 ≡ min (length before) 6 = in_place before (DataBegin z) (k.place before after it split) in
    let four : length before ≡ 4 = omega (arith, place) in
    let long : length ds ≡ length before + suc (length after) = ap length split ∙ length-append before (it ∷ after) in
    by (five before after four (omega (arith, long, four, k.whole)))
  where
    it : Declaration
    it = record { line = line; form = DataBegin z }

    by : Five before after → number_of z < 2 ^ 32
    by f =
        let whole : ds ≡ f.a ∷ f.b ∷ f.c ∷ f.d ∷ it ∷ f.next ∷ f.rest =
        split ∙ ap (λ xs. xs ++ it ∷ after) f.front ∙ ap (λ xs. f.a ∷ f.b ∷ f.c ∷ f.d ∷ it ∷ xs) f.behind in
        let three = f.a ∷ f.b ∷ f.c ∷ [] in
        let heading = f.a ∷ f.b ∷ f.c ∷ f.d ∷ it ∷ [] in
        let fourth = in_place three f.d.form (k.place three (it ∷ f.next ∷ f.rest) f.d whole) in
        let sixth = in_place heading f.next.form (k.place heading f.rest f.next whole) in
        data_below f.a f.b f.c f.d line z heading
        (in_place [] f.a.form (k.place [] (f.b ∷ f.c ∷ f.d ∷ it ∷ f.next ∷ f.rest) f.a whole))
        (in_place (f.a ∷ []) f.b.form (k.place (f.a ∷ []) (f.c ∷ f.d ∷ it ∷ f.next ∷ f.rest) f.b whole))
        (in_place (f.a ∷ f.b ∷ []) f.c.form (k.place (f.a ∷ f.b ∷ []) (f.d ∷ it ∷ f.next ∷ f.rest) f.c whole))
        fourth
        (has_memory w three f.d.form (k.range three (it ∷ f.next ∷ f.rest) f.d whole) fourth)
        refl
        (leaves w heading f.next.form (k.range heading f.rest f.next whole) sixth)

form_in_range : (w : ℕ) (ds before after : List Declaration) (line : ℕ) (f : Form) → Kept w ds → ds ≡ before ++ record { line = line; form = f } ∷ after → IsInRange f
form_in_range w ds before after line (MemorySize z) k split = let below = memory_below w z (k.range before after _ split) in omega (arith, below)
form_in_range w ds before after line (DataBegin z) k split = data_in_range w ds before after line z k split
form_in_range w ds before after line (StackSize z) k split = let below = (stack_parts w before z (k.range before after _ split)).0 in omega (arith, below)
form_in_range w ds before after line (RegisterLine z name role) k split =
    let below = at_most 0 63 z (holds (is_from_to 0 63 z) (k.range before after _ split)) in omega (arith, below)
form_in_range w ds before after line (FlagLine z name) k split =
    let below = at_most 0 7 z (holds (is_from_to 0 7 z) (k.range before after _ split)) in omega (arith, below)
form_in_range w ds before after line _ k split = tt

-- what is declared that breaks none of the rules before those of transfers
pub in_range : (d : Declared) → IsFirst 1 10 d None → AreInRange d.all
in_range d first = behind [] d.all refl
  where
    behind : (before after : List Declaration) → d.all ≡ before ++ after → AreInRange after
    behind before [] split = tt
    behind before (it ∷ after) split = (
      form_in_range d.width d.all before after it.line it.form (kept d first) split,
      behind (before ++ it ∷ []) after (split ∙ sym (append_assoc before (it ∷ []) after)),
    )

pub registers_fit : (d : Declared) → IsFirst 1 10 d None → FitIn64 d.all
registers_fit d first = fit_in_64 d.width d.all (λ line b. first OutOfRange line (omega arith) (omega arith) b)
