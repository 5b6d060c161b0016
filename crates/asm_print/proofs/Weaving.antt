-- Lines with labels between them: what is read of them.
use Rattle.std.proofs.Common.{◌≡◌, ◌⊎◌, inl, inr, ℕ, zero, suc, ◌+◌, ◌-◌, ◌≤◌, not, true, false, List, [], ◌∷◌, ◌++◌, length, map, take, drop, filter_map, Option, Some, None, refl, sym, ap, subst, ◌∙◌, arith}
use Rattle.std.specs.List.{cons_option}
use Rattle.std.proofs.lemmas.List.{length-drop}
use Rattle.asm_program.specs.declared.places.Part.{Part}
use Rattle.asm_program.specs.declared.places.Part.TheVariants.{InText, InData}
use Rattle.asm_program.specs.TextLines.{Label, Said, Labelled, Byte, Others}
use Rattle.asm_program.specs.Places.{part_after, count_after, reach_in}
use Rattle.asm_program.specs.Rules.{is_in_place, is_dotted}
use Rattle.asm_program.specs.Programs.{instruction_of, text_labels, data_part}
use Rattle.asm_print.specs.Layout.{Stop, woven, AreBetween}

-- each label stands before the line of its place
pub data Weave : ℕ → List Stop → List Said → List Said → ℕ → Type 0 where
  finished : (k : ℕ) → Weave k [] [] [] k
  a_line : (k end : ℕ) (s : Said) (stops : List Stop) (lines more : List Said) → Weave (suc k) stops lines more end → Weave k stops (s ∷ lines) (s ∷ more) end
  a_label : (k end : ℕ) (l : Label) (stops : List Stop) (lines more : List Said) → Weave k stops lines more end → Weave k ((l, k) ∷ stops) lines (Labelled l ∷ more) end

between_ends : (low high : ℕ) (stops : List Stop) → AreBetween low high stops → low ≤ high
between_ends low high [] h = h
between_ends low high (s ∷ stops) h = let first = h.0 in let rest = between_ends s.1 high stops h.1 in omega (arith, first, rest)

front : (n k end : ℕ) (stops : List Stop) (xs more : List Said) → n ≤ length xs → Weave (k + n) stops (drop n xs) more end → Weave k stops xs (take n xs ++ more) end
front zero k end stops xs more h w = subst (λ (m : ℕ). Weave m stops xs more end) (let e : k + 0 ≡ k = omega arith in e) w
front (suc n) k end stops [] more h w = absurd (let q : suc n ≤ 0 = h in omega arith)
front (suc n) k end stops (x ∷ xs) more h w =
    a_line k end x stops xs (take n xs ++ more)
    (front n (suc k) end stops xs more (let q : suc n ≤ suc (length xs) = h in omega arith)
    (subst (λ (m : ℕ). Weave m stops (drop n xs) more end) (let e : k + suc n ≡ suc k + n = omega arith in e) w))

all_lines : (xs : List Said) (k : ℕ) → Weave k [] xs xs (k + length xs)
all_lines [] k = subst (λ (m : ℕ). Weave k [] [] [] m) (let e : k ≡ k + 0 = omega arith in e) (finished k)
all_lines (x ∷ xs) k =
    subst (λ (m : ℕ). Weave k [] (x ∷ xs) (x ∷ xs) m) (let e : suc k + length xs ≡ k + suc (length xs) = omega arith in e)
    (a_line k (suc k + length xs) x [] xs xs (all_lines xs (suc k)))

pub weave_of : (stops : List Stop) (k end : ℕ) (xs : List Said) → AreBetween k end stops → end ≡ k + length xs → Weave k stops xs (woven k stops xs) end
weave_of [] k end xs b e = subst (λ (m : ℕ). Weave k [] xs xs m) (sym e) (all_lines xs k)
weave_of ((l, at) ∷ stops) k end xs b e =
    let first : k ≤ at = b.0 in
    let last = between_ends at end stops b.1 in
    let rest : end ≡ at + length (drop (at - k) xs) = omega (arith, first, last, e, length-drop (at - k) xs) in
    front (at - k) k end ((l, at) ∷ stops) xs (Labelled l ∷ woven at stops (drop (at - k) xs)) (omega (arith, first, last, e))
    (subst (λ (m : ℕ). Weave m ((l, at) ∷ stops) (drop (at - k) xs) (Labelled l ∷ woven at stops (drop (at - k) xs)) end) (let q : at ≡ k + (at - k) = omega (arith, first) in q)
    (a_label at end l stops (drop (at - k) xs) (woven at stops (drop (at - k) xs)) (weave_of stops at end (drop (at - k) xs) b.1 rest)))

-- lines that are instructions, and lines that are bytes

abbrev pub AreInstructions : List Said → Type 0
AreInstructions [] = Unit {0}
AreInstructions (Others ts ∷ ss) = (is_dotted ts ≡ false) × AreInstructions ss
AreInstructions (s ∷ ss) = ⊥

abbrev pub ArePlain : List Said → Type 0
ArePlain [] = Unit {0}
ArePlain (Others ts ∷ ss) = ArePlain ss
ArePlain (Byte z ∷ ss) = ArePlain ss
ArePlain (s ∷ ss) = ⊥

-- the labels of the text part
pub weave_text_labels : (k end : ℕ) (stops : List Stop) (lines out : List Said) → Weave k stops lines out end → AreInstructions lines → (rest : List Said)
    → text_labels k (out ++ rest) ≡ stops ++ text_labels end rest
weave_text_labels k end stops lines out (finished j) a rest = refl
weave_text_labels k end stops lines out (a_line j e (Others ts) ss xs ys w) a rest = weave_text_labels (suc j) e ss xs ys w a.1 rest
weave_text_labels k end stops lines out (a_line j e _ ss xs ys w) a rest = absurd a
weave_text_labels k end stops lines out (a_label j e l ss xs ys w) a rest = ap (λ (zs : List Stop). (l, j) ∷ zs) (weave_text_labels j e ss xs ys w a rest)

option_append : {A : Type 0} (o : Option A) (xs ys zs : List A) → xs ≡ ys ++ zs → cons_option o xs ≡ cons_option o ys ++ zs
option_append None xs ys zs e = e
option_append (Some x) xs ys zs e = ap (λ (us : List _). x ∷ us) e

pub weave_instructions : (k end : ℕ) (stops : List Stop) (lines out : List Said) → Weave k stops lines out end → (rest : List Said)
    → filter_map instruction_of (out ++ rest) ≡ filter_map instruction_of lines ++ filter_map instruction_of rest
weave_instructions k end stops lines out (finished j) rest = refl
weave_instructions k end stops lines out (a_line j e s ss xs ys w) rest =
    option_append (instruction_of s) (filter_map instruction_of (ys ++ rest)) (filter_map instruction_of xs) (filter_map instruction_of rest) (weave_instructions (suc j) e ss xs ys w rest)
weave_instructions k end stops lines out (a_label j e l ss xs ys w) rest = weave_instructions j e ss xs ys w rest

pub weave_data_part : (k end : ℕ) (stops : List Stop) (lines out : List Said) → Weave k stops lines out end → AreInstructions lines → (rest : List Said)
    → data_part (out ++ rest) ≡ data_part rest
weave_data_part k end stops lines out (finished j) a rest = refl
weave_data_part k end stops lines out (a_line j e (Others ts) ss xs ys w) a rest = weave_data_part (suc j) e ss xs ys w a.1 rest
weave_data_part k end stops lines out (a_line j e _ ss xs ys w) a rest = absurd a
weave_data_part k end stops lines out (a_label j e l ss xs ys w) a rest = weave_data_part j e ss xs ys w a rest

-- the labels of all lines

abbrev pub labels_on : List Said → List Label
labels_on [] = []
labels_on (Labelled l ∷ ss) = l ∷ labels_on ss
labels_on (s ∷ ss) = labels_on ss

abbrev pub stop_label : Stop → Label
stop_label stop = stop.0

pub weave_labels : (k end : ℕ) (stops : List Stop) (lines out : List Said) → Weave k stops lines out end → ArePlain lines → (rest : List Said)
    → labels_on (out ++ rest) ≡ map stop_label stops ++ labels_on rest
weave_labels k end stops lines out (finished j) a rest = refl
weave_labels k end stops lines out (a_line j e (Others ts) ss xs ys w) a rest = weave_labels (suc j) e ss xs ys w a rest
weave_labels k end stops lines out (a_line j e (Byte z) ss xs ys w) a rest = weave_labels (suc j) e ss xs ys w a rest
weave_labels k end stops lines out (a_line j e _ ss xs ys w) a rest = absurd a
weave_labels k end stops lines out (a_label j e l ss xs ys w) a rest = ap (λ (zs : List Label). l ∷ zs) (weave_labels j e ss xs ys w a rest)

-- where a label stands

abbrev pub parts : Part → List Said → Part
parts part [] = part
parts part (s ∷ ss) = parts (part_after part s) ss

pub parts_append : (part : Part) (xs ys : List Said) → parts part (xs ++ ys) ≡ parts (parts part xs) ys
parts_append part [] ys = refl
parts_append part (x ∷ xs) ys = parts_append (part_after part x) xs ys

pub data_stays : (ss : List Said) → parts InData ss ≡ InData
data_stays [] = refl
data_stays (s ∷ ss) = data_stays ss

pub weave_parts : (k end : ℕ) (stops : List Stop) (lines out : List Said) → Weave k stops lines out end → ArePlain lines → parts InText out ≡ InText
weave_parts k end stops lines out (finished j) a = refl
weave_parts k end stops lines out (a_line j e (Others ts) ss xs ys w) a = weave_parts (suc j) e ss xs ys w a
weave_parts k end stops lines out (a_line j e (Byte z) ss xs ys w) a = weave_parts (suc j) e ss xs ys w a
weave_parts k end stops lines out (a_line j e _ ss xs ys w) a = absurd a
weave_parts k end stops lines out (a_label j e l ss xs ys w) a = weave_parts j e ss xs ys w a

pub record HasLine (l : Label) (out : List Said) : Type 0 where
  pub before : List Said
  pub behind : List Said
  pub are : out ≡ before ++ Labelled l ∷ behind
  pub in_text : parts InText before ≡ InText
  pub in_data : parts InData before ≡ InData

abbrev pub HasStop : List Stop → Label → Type 0
HasStop [] l = ⊥
HasStop (stop ∷ stops) l = (stop.0 ≡ l) ⊎ HasStop stops l

behind_plain : (s : Said) (l : Label) (out : List Said) → part_after InText s ≡ InText → part_after InData s ≡ InData → HasLine l out → HasLine l (s ∷ out)
behind_plain s l out e f h = record {
  before = s ∷ h.before;
  behind = h.behind;
  are = ap (λ (zs : List Said). s ∷ zs) h.are;
  in_text = ap (λ (q : Part). parts q h.before) e ∙ h.in_text;
  in_data = ap (λ (q : Part). parts q h.before) f ∙ h.in_data;
}

here : (l k : Label) (out : List Said) → k ≡ l → HasLine l (Labelled k ∷ out)
here l k out e = record { before = []; behind = out; are = ap (λ (x : Label). Labelled x ∷ out) e; in_text = refl; in_data = refl }

pub weave_has : (k end : ℕ) (stops : List Stop) (lines out : List Said) → Weave k stops lines out end → ArePlain lines → (l : Label) → HasStop stops l → HasLine l out
weave_has k end stops lines out (finished j) a l h = absurd h
weave_has k end stops lines out (a_line j e (Others ts) ss xs ys w) a l h = behind_plain (Others ts) l ys refl refl (weave_has (suc j) e ss xs ys w a l h)
weave_has k end stops lines out (a_line j e (Byte z) ss xs ys w) a l h = behind_plain (Byte z) l ys refl refl (weave_has (suc j) e ss xs ys w a l h)
weave_has k end stops lines out (a_line j e _ ss xs ys w) a l h = absurd a
weave_has k end stops lines out (a_label j e m ss xs ys w) a l (inl same) = here l m ys same
weave_has k end stops lines out (a_label j e m ss xs ys w) a l (inr h) = behind_plain (Labelled m) l ys refl refl (weave_has j e ss xs ys w a l h)

-- a property of each line

abbrev pub Each : {A : Type 0} → (A → Type 0) → List A → Type 0
Each P [] = Unit {0}
Each P (x ∷ xs) = P x × Each P xs

pub each_append : {A : Type 0} (P : A → Type 0) (xs ys : List A) → Each P xs → Each P ys → Each P (xs ++ ys)
each_append P [] ys h k = k
each_append P (x ∷ xs) ys h k = (h.0, each_append P xs ys h.1 k)

pub weave_each : (P : Said → Type 0) (k end : ℕ) (stops : List Stop) (lines out : List Said) → Weave k stops lines out end → Each P lines → Each (λ stop. P (Labelled stop.0)) stops → Each P out
weave_each P k end stops lines out (finished j) a b = tt
weave_each P k end stops lines out (a_line j e s ss xs ys w) a b = (a.0, weave_each P (suc j) e ss xs ys w a.1 b)
weave_each P k end stops lines out (a_label j e l ss xs ys w) a b = (b.0, weave_each P j e ss xs ys w a b.1)

-- each line may stand in its part

abbrev pub AreInPlace : ℕ → Part → List Said → Type 0
AreInPlace w part [] = Unit {0}
AreInPlace w part (s ∷ ss) = (is_in_place w part s ≡ true) × AreInPlace w (part_after part s) ss

pub weave_in_text : (w k end : ℕ) (stops : List Stop) (lines out : List Said) → Weave k stops lines out end → AreInstructions lines → (rest : List Said) → AreInPlace w InText rest
    → AreInPlace w InText (out ++ rest)
weave_in_text w k end stops lines out (finished j) a rest r = r
weave_in_text w k end stops lines out (a_line j e (Others ts) ss xs ys v) a rest r = (ap not a.0, weave_in_text w (suc j) e ss xs ys v a.1 rest r)
weave_in_text w k end stops lines out (a_line j e _ ss xs ys v) a rest r = absurd a
weave_in_text w k end stops lines out (a_label j e l ss xs ys v) a rest r = (refl, weave_in_text w j e ss xs ys v a rest r)

-- how many instructions there are, and how far the data reach

abbrev pub counts : Part → ℕ → List Said → ℕ
counts part n [] = n
counts part n (s ∷ ss) = counts (part_after part s) (count_after part n s) ss

pub weave_counts : (k end : ℕ) (stops : List Stop) (lines out : List Said) → Weave k stops lines out end → AreInstructions lines → (n : ℕ) (rest : List Said)
    → counts InText n (out ++ rest) ≡ counts InText (n + length lines) rest
weave_counts k end stops lines out (finished j) a n rest = ap (λ (m : ℕ). counts InText m rest) (let e : n ≡ n + 0 = omega arith in e)
weave_counts k end stops lines out (a_line j e (Others ts) ss xs ys w) a n rest =
    weave_counts (suc j) e ss xs ys w a.1 (n + 1) rest ∙ ap (λ (m : ℕ). counts InText m rest) (let q : n + 1 + length xs ≡ n + suc (length xs) = omega arith in q)
weave_counts k end stops lines out (a_line j e _ ss xs ys w) a n rest = absurd a
weave_counts k end stops lines out (a_label j e l ss xs ys w) a n rest = weave_counts j e ss xs ys w a n rest

abbrev pub reaches : ℕ → Part → ℕ → List Said → ℕ
reaches wb part k [] = k
reaches wb part k (s ∷ ss) = reaches wb (part_after part s) (reach_in part wb k s) ss

pub weave_text_reaches : (wb k end : ℕ) (stops : List Stop) (lines out : List Said) → Weave k stops lines out end → AreInstructions lines → (r : ℕ) (rest : List Said)
    → reaches wb InText r (out ++ rest) ≡ reaches wb InText r rest
weave_text_reaches wb k end stops lines out (finished j) a r rest = refl
weave_text_reaches wb k end stops lines out (a_line j e (Others ts) ss xs ys w) a r rest = weave_text_reaches wb (suc j) e ss xs ys w a.1 r rest
weave_text_reaches wb k end stops lines out (a_line j e _ ss xs ys w) a r rest = absurd a
weave_text_reaches wb k end stops lines out (a_label j e l ss xs ys w) a r rest = weave_text_reaches wb j e ss xs ys w a r rest
