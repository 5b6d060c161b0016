-- Where a line of an assembly text stands.
use Rattle.std.specs.Prelude.{ℕ, suc, ◌+◌, ◌*◌, ◌/◌, ◌-◌, ◌==◌, Bool, false, if◌then◌else◌, ℤ, pos, negsuc, List, [], ◌∷◌, ◌++◌, Option, Some, None, filter_map}
use Rattle.std.specs.List.{list_any}
use Rattle.std.specs.Str.{bytes_eq}
use Rattle.asm_token.specs.Tokens.{Token, Name, Number, Mark}
use Rattle.asm_program.specs.declared.places.Part.{Part}
use Rattle.asm_program.specs.declared.places.Part.TheVariants.{Outside, InText, InData}
use Rattle.asm_program.specs.declared.places.Place.{Place}
use Rattle.asm_program.specs.TextLines.{Label, Block, Symbol, Said, TextBegins, DataBegins, Labelled, Word, Byte, Space, Others}

-- the part of the line after one that says s
abbrev pub part_after : Part → Said → Part
part_after Outside TextBegins = InText
part_after InText DataBegins = InData
part_after part s = part

abbrev pub same_label : Label → Label → Bool
same_label (Block a) (Block b) = a == b
same_label (Symbol a) (Symbol b) = bytes_eq a b
same_label _ _ = false

abbrev pub is_label_line : Label → Said → Bool
is_label_line l (Labelled k) = same_label k l
is_label_line l _ = false

-- where a label stands first, among lines that begin at a place
abbrev pub first_from : ℕ → Part → Label → List Said → Option Place
first_from k part l [] = None
first_from k part l (s ∷ ss) = if is_label_line l s then Some (record { line = k; part = part }) else first_from (suc k) (part_after part s) l ss

-- where a label stands first
abbrev pub first_place : List Said → Label → Option Place
first_place all l = first_from 0 Outside l all

-- the next multiple of n
abbrev pub aligned : ℕ → ℕ → ℕ
aligned n k = n * ((k + (n - 1)) / n)

abbrev pub magnitude : ℤ → ℕ
magnitude (pos n) = n
magnitude (negsuc n) = suc n

-- how far the data reach behind a line of the data part
abbrev pub reach_after : ℕ → ℕ → Said → ℕ
reach_after wb k (Labelled l) = aligned wb k
reach_after wb k (Word z) = aligned wb k + wb
reach_after wb k (Byte z) = k + 1
reach_after wb k (Space z) = k + magnitude z
reach_after wb k _ = k

-- the rest of a name that begins with `_`
abbrev pub behind_underscore : List ℕ → Option (List ℕ)
behind_underscore [] = None
behind_underscore (b ∷ bs) = if b == 95 then Some bs else None

abbrev pub symbol_in : Token → Option (List ℕ)
symbol_in (Name name) = behind_underscore name
symbol_in (Number z) = None
symbol_in (Mark c) = None

-- the names with `_` on a line
abbrev pub symbols_on : Said → List (List ℕ)
symbols_on (Labelled (Symbol s)) = s ∷ []
symbols_on (Others ts) = filter_map symbol_in ts
symbols_on _ = []

-- a name is added where it isn't there
abbrev pub with_name : List (List ℕ) → List ℕ → List (List ℕ)
with_name names name = if list_any (bytes_eq name) names then names else names ++ name ∷ []

abbrev pub with_names : List (List ℕ) → List (List ℕ) → List (List ℕ)
with_names names [] = names
with_names names (x ∷ xs) = with_names (with_name names x) xs

-- what stands before a line: its number from 0, its part, the number of instructions, how far the data reach, and the different names with `_`
pub record Position : Type 0 where
  pub line : ℕ
  pub part : Part
  pub count : ℕ
  pub reach : ℕ
  pub names : List (List ℕ)

abbrev pub start : Position
start = record { line = 0; part = Outside; count = 0; reach = 0; names = [] }

abbrev pub count_after : Part → ℕ → Said → ℕ
count_after InText n (Others ts) = n + 1
count_after part n s = n

abbrev pub reach_in : Part → ℕ → ℕ → Said → ℕ
reach_in InData wb k s = reach_after wb k s
reach_in part wb k s = k

-- what stands before the next line
abbrev pub after : ℕ → Position → Said → Position
after wb p s = record {
  line = p.line + 1;
  part = part_after p.part s;
  count = count_after p.part p.count s;
  reach = reach_in p.part wb p.reach s;
  names = with_names p.names (symbols_on s);
}
