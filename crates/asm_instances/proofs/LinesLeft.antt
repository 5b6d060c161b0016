-- The instances of a text, a line further.
use Rattle.std.proofs.Common.{◌≡◌, ℕ, Bool, true, false, not, cond, List, [], ◌∷◌, ◌++◌, Some, None, refl, sym, ap, subst, ◌∙◌, append_assoc}
use Rattle.std.proofs.lemmas.List.{append-nil}
use Rattle.std.proofs.lemmas.List.Elements.{All-weaker}
use Rattle.std.specs.List.{AllZip}
use Rattle.asm_token.specs.Tokens.{Token}
use Rattle.rtl_tree.specs.declared.c_names.Names.{Names}
use Rattle.md_rows.specs.declared.description.RawDescription.{RawDescription}
use Rattle.md_rows.specs.declared.instance.Instance.{Instance}
use Rattle.asm_row.specs.Reading.{Value, Object, Function, Register_, Number, Block}
use Rattle.asm_row.specs.Walk.{IsLine}
use Rattle.asm_program.specs.declared.places.Part.{Part}
use Rattle.asm_program.specs.declared.places.Part.TheVariants.{Outside, InText, InData}
use Rattle.asm_program.specs.TextLines.{Said, Others, Says}
use Rattle.asm_program.specs.Places.{start, after}
use Rattle.asm_program.specs.Rules.{AreSaid, IsMade, IsPlaced, Walks, instruction_in, is_in_place, is_dotted, word_bytes}
use Rattle.asm_program.specs.Programs.{instructions}
use Rattle.asm_labels.specs.declared.saying.Said.{Said as Held}
use Rattle.asm_labels.specs.declared.saying.Said.TheVariants as held
use Rattle.asm_labels.specs.Seen.{OnOthers, seen}
use Rattle.asm_instances.specs.Known.{AddsLine, AreLinesLeft, HaveLabels, IsBoundLine, IsKnown, IsKnownLine, IsNamedText}
use Rattle.asm_labels.proofs.Opening.{Opens}

not_dotted : (b : Bool) (ts : List Token) → not b ≡ true → cond b None (Some ts) ≡ Some ts
not_dotted true ts e = absurd (cc)
not_dotted false ts e = refl

instruction_of : (w : ℕ) (part : Part) (ts : List Token) → is_in_place w part (Others ts) ≡ true → instruction_in part (Others ts) ≡ Some ts
instruction_of w Outside ts e = absurd (cc)
instruction_of w InText ts e = not_dotted (is_dotted ts) ts e
instruction_of w InData ts e = absurd (cc)

-- what is placed is known
known_by : (n : Names) (all : List Said) → HaveLabels n all → (v : Value) → IsPlaced all v → IsKnown n v
known_by n all h (Object name) p = h.objects name p
known_by n all h (Function name) p = h.functions name p
known_by n all h (Block b) p = tt
known_by n all h (Register_ k) p = tt
known_by n all h (Number v) p = tt

made_known : (d : RawDescription) (n : Names) (all : List Said) (ts : List Token) → HaveLabels n all → IsMade d all ts → IsKnownLine d n ts
made_known d n all ts h m = record { place = m.place; values = m.values; found = m.found; known = All-weaker (IsPlaced all) (IsKnown n) (known_by n all h) m.values m.placed }

module _ (d : RawDescription) (n : Names) (all : List Said) where
  pub at_start : (text : List ℕ) → IsNamedText d n text all → AreLinesLeft d n all text []
  at_start text t = record { left = all; said = t.said; position = start; last = t.sound.last; walks = t.sound.walks; zip = λ more a. a }

  module _ (rest line behind : List ℕ) (lines : List Instance) (x : Held) (a : AreLinesLeft d n all rest lines) (o : Opens a.left line behind x) where
    walked : Walks d all a.position (seen x o.tokens ∷ o.behind) a.last
    walked = subst (λ (ss : List Said). Walks d all a.position ss a.last) o.are a.walks

    pub known_line : HaveLabels n all → x ≡ held.Others → (ts : List Token) × (k : IsKnownLine d n ts) × IsLine line ts
    known_line h e =
        let good = walked.0 in
        let place : is_in_place d.word a.position.part (Others o.tokens) ≡ true = subst (λ (y : Held). is_in_place d.word a.position.part (seen y o.tokens) ≡ true) e good.in_place in
        let is : instruction_in a.position.part (seen x o.tokens) ≡ Some o.tokens =
        subst (λ (y : Held). instruction_in a.position.part (seen y o.tokens) ≡ Some o.tokens) (sym e) (instruction_of d.word a.position.part o.tokens place) in
        (o.tokens, made_known d n all o.tokens h (good.made o.tokens is), subst (λ (y : Held). OnOthers y (IsLine line o.tokens)) e o.on)

    pub lines_more : (new : List Instance) → AddsLine d n line x lines new → AreLinesLeft d n all behind new
    lines_more new adds =
        record {
          left = o.behind;
          said = o.others;
          position = after (word_bytes d) a.position (seen x o.tokens);
          last = a.last;
          walks = walked.1;
          zip = zip_more x o.tokens new adds o.on (λ more z. a.zip more (subst (λ (ss : List Said). AllZip (IsBoundLine d n) (instructions ss) more) (sym o.are) z));
        }
      where
        Zips : List Said → List Instance → Type 0
        Zips ss ls = (more : List Instance) → AllZip (IsBoundLine d n) (instructions ss) more → AllZip (IsBoundLine d n) (instructions all) (ls ++ more)

        stays : (ss : List Said) (new : List Instance) → new ≡ lines → Zips ss lines → Zips ss new
        stays ss new e h more z = subst (λ (ls : List Instance). AllZip (IsBoundLine d n) (instructions all) (ls ++ more)) (sym e) (h more z)

        zip_more : (y : Held) (ts : List Token) (new : List Instance) → AddsLine d n line y lines new → OnOthers y (IsLine line ts) → Zips (seen y ts ∷ o.behind) lines → Zips o.behind new
        zip_more held.Others ts new b l h = λ more z.
            subst (λ (ls : List Instance). AllZip (IsBoundLine d n) (instructions all) ls)
            (sym (ap (λ (ls : List Instance). ls ++ more) b.are ∙ append_assoc lines (b.instance ∷ []) more))
            (h (b.instance ∷ more) (b.bound ts l, z))
        zip_more held.Nothing ts new b l h = stays o.behind new b h
        zip_more held.Unreadable ts new b l h = stays o.behind new b h
        zip_more held.TextBegins ts new b l h = stays o.behind new b h
        zip_more held.DataBegins ts new b l h = stays o.behind new b h
        zip_more (held.Labelled k) ts new b l h = stays o.behind new b h
        zip_more held.Mislabelled ts new b l h = stays o.behind new b h
        zip_more (held.Word z) ts new b l h = stays o.behind new b h
        zip_more (held.Byte z) ts new b l h = stays o.behind new b h
        zip_more (held.Space z) ts new b l h = stays o.behind new b h

nothing_left : (ss : List Said) → AllZip Says [] ss → ss ≡ []
nothing_left [] a = refl
nothing_left (s ∷ ss) a = absurd a

pub at_end : (d : RawDescription) (n : Names) (all : List Said) (rest : List ℕ) (lines : List Instance) → rest ≡ [] → AreLinesLeft d n all rest lines
    → AllZip (IsBoundLine d n) (instructions all) lines
at_end d n all rest lines e a =
    let none : a.left ≡ [] = nothing_left a.left (subst (λ (xs : List ℕ). AreSaid xs a.left) e a.said) in
    subst (λ (ls : List Instance). AllZip (IsBoundLine d n) (instructions all) ls) (append-nil lines)
    (a.zip [] (subst (λ (ss : List Said). AllZip (IsBoundLine d n) (instructions ss) []) (sym none) tt))
