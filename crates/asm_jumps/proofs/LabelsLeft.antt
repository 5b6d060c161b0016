-- The labels of a text part, a line further.
use Rattle.std.proofs.Common.{◌≡◌, ◌≢◌, ℕ, suc, ◌+◌, ◌≤◌, ◌==◌, Bool, true, false, cond, List, [], ◌∷◌, ◌++◌, Option, Some, None, Contains, refl, sym, ap, subst, ◌∙◌, arith, append_assoc}
use Rattle.std.proofs.lemmas.List.{append-nil}
use Rattle.std.proofs.lemmas.List.Elements.{Contains-append_right}
use Rattle.std.specs.List.{AllZip}
use Rattle.asm_token.specs.Tokens.{Token}
use Rattle.rtl_tree.specs.declared.c_names.Names.{Names}
use Rattle.rtl_value.specs.declared.state.LabelAt.{LabelAt}
use Rattle.md_rows.specs.declared.description.RawDescription.{RawDescription}
use Rattle.asm_program.specs.declared.places.Part.{Part}
use Rattle.asm_program.specs.declared.places.Part.TheVariants.{Outside, InText, InData}
use Rattle.asm_program.specs.TextLines.{Label, Symbol, Said, Labelled, Others, Says}
use Rattle.asm_program.specs.Places.{Position, start, after, part_after, count_after}
use Rattle.asm_program.specs.Rules.{AreSaid, Walks, word_bytes, is_in_place}
use Rattle.asm_program.specs.Programs.{text_labels}
use Rattle.asm_labels.specs.declared.saying.Label.TheVariants as heldlabel
use Rattle.asm_labels.specs.declared.saying.Said.{Said as Held}
use Rattle.asm_labels.specs.declared.saying.Said.TheVariants as held
use Rattle.asm_labels.specs.Seen.{seen}
use Rattle.asm_labels.proofs.Opening.{Opens}
use Rattle.asm_names.specs.LabelNames.{label_name, names_in, taken}
use Rattle.asm_jumps.specs.LabelPlaces.{AddsLabel, HasNumberIn, IsAt, IsTextOf, counted}

pub record AreLabelsLeft (d : RawDescription) (n : Names) (all : List Said) (rest : List ℕ) (labels : List LabelAt) (count : ℕ) : Type 0 where
  pub left : List Said
  pub said : AreSaid rest left
  pub position : Position
  pub last : Position
  pub walks : Walks d all position left last
  pub not_data : position.part ≢ InData
  pub count_is : position.count ≡ count
  pub known : (x : List ℕ) → Contains (names_in InText position.part left) x → Contains n.functions x
  pub zip : (more : List LabelAt) → AllZip (IsAt n) (text_labels count left) more → AllZip (IsAt n) (text_labels 0 all) (labels ++ more)

pub at_start : (d : RawDescription) (n : Names) (all : List Said) (text : List ℕ) → IsTextOf d n text all → AreLabelsLeft d n all text [] 0
at_start d n all text t =
    record {
      left = all;
      said = t.sound.said;
      position = start;
      last = t.sound.sound.last;
      walks = t.sound.sound.walks;
      not_data = λ e. cc;
      count_is = refl;
      known = λ x c. subst (λ (xs : List (List ℕ)). Contains xs x) (sym t.names.functions) c;
      zip = λ more z. z;
    }

not_both : (b : Bool) → b ≡ true → b ≡ false → ⊥
not_both b e f = cc

-- a label outside the data part stands in the text part
in_text : (w : ℕ) (part : Part) (l : Label) → part ≢ InData → is_in_place w part (Labelled l) ≡ true → part ≡ InText
in_text w Outside l n e = absurd (cc)
in_text w InText l n e = refl
in_text w InData l n e = absurd (n refl)

others_in_text : (w : ℕ) (part : Part) (ts : List Token) → is_in_place w part (Others ts) ≡ true → part ≡ InText
others_in_text w Outside ts e = absurd (cc)
others_in_text w InText ts e = refl
others_in_text w InData ts e = absurd (cc)

taken_keeps : (o : Option (List ℕ)) (part : Part) (names : List (List ℕ)) (y : List ℕ) → Contains names y → Contains (taken InText part o names) y
taken_keeps None part names y c = c
taken_keeps (Some x) InText names y c = Contains-append_right (x ∷ []) names y c
taken_keeps (Some x) InData names y c = c
taken_keeps (Some x) Outside names y c = c

still_text : (y : Held) (ts : List Token) (part : Part) → (y ≡ held.DataBegins → ⊥) → part ≢ InData → part_after part (seen y ts) ≢ InData
still_text y ts InData n p e = p refl
still_text held.TextBegins ts Outside n p e = cc
still_text held.Nothing ts Outside n p e = cc
still_text _ ts Outside n p e = cc
still_text held.DataBegins ts InText n p e = n refl
still_text held.Nothing ts InText n p e = cc
still_text _ ts InText n p e = cc

count_more : (w : ℕ) (y : Held) (ts : List Token) (part : Part) (k : ℕ) → is_in_place w part (seen y ts) ≡ true → count_after part k (seen y ts) ≡ counted k (seen y ts)
count_more w held.Others ts part k e = ap (λ (q : Part). count_after q k (Others ts)) (others_in_text w part ts e)
count_more w held.Nothing ts InText k e = refl
count_more w _ ts InText k e = refl
count_more w _ ts Outside k e = refl
count_more w _ ts InData k e = refl

at_most : (w : ℕ) (b : Bool) (k : ℕ) → k ≤ cond b 65535 1000000 → k ≤ 1000000
at_most w true k h = omega arith
at_most w false k h = h

module _ (d : RawDescription) (n : Names) (all : List Said) (line rest behind : List ℕ) (x : Held) (labels : List LabelAt) (count : ℕ) (a : AreLabelsLeft d n all rest labels count)
    (o : Opens a.left line behind x) where
  walked : Walks d all a.position (seen x o.tokens ∷ o.behind) a.last
  walked = subst (λ (ss : List Said). Walks d all a.position ss a.last) o.are a.walks

  known_here : (y : List ℕ) → Contains (names_in InText a.position.part (seen x o.tokens ∷ o.behind)) y → Contains n.functions y
  known_here y c = a.known y (subst (λ (ss : List Said). Contains (names_in InText a.position.part ss) y) (sym o.are) c)

  number_by : (y : Held) (ts : List Token) (part : Part) → part ≢ InData → is_in_place d.word part (seen y ts) ≡ true
      → ((z : List ℕ) → Contains (names_in InText part (seen y ts ∷ o.behind)) z → Contains n.functions z) → HasNumberIn n y
  number_by (held.Labelled (heldlabel.Symbol s)) ts part p e k =
      let q : part ≡ InText = in_text d.word part (Symbol s.now) p e in
      k s.now (subst (λ (r : Part). Contains (names_in InText r (Labelled (Symbol s.now) ∷ o.behind)) s.now) (sym q) (0, omega arith, refl))
  number_by (held.Labelled (heldlabel.Block b)) ts part p e k = tt
  number_by held.Nothing ts part p e k = tt
  number_by _ ts part p e k = tt

  pub has_number : HasNumberIn n x
  has_number = number_by x o.tokens a.position.part a.not_data walked.0.in_place known_here

  pub is_few : count ≤ 1000000 → (next : ℕ) → next ≡ counted count (seen x o.tokens) → next ≤ 1000000
  is_few h next e =
      let c : count_after a.position.part a.position.count (seen x o.tokens) ≡ counted a.position.count (seen x o.tokens) =
      count_more d.word x o.tokens a.position.part a.position.count walked.0.in_place in
      let same : next ≡ count_after a.position.part a.position.count (seen x o.tokens) = e ∙ ap (λ (k : ℕ). counted k (seen x o.tokens)) (sym a.count_is) ∙ sym c in
      subst (λ (k : ℕ). k ≤ 1000000) (sym same) (at_most d.word (d.word == 16) (count_after a.position.part a.position.count (seen x o.tokens)) walked.0.within.instructions)

  abbrev Zips : ℕ → List Said → List LabelAt → Type 0
  Zips k ss ls = (more : List LabelAt) → AllZip (IsAt n) (text_labels k ss) more → AllZip (IsAt n) (text_labels 0 all) (ls ++ more)

  stays : (k : ℕ) (ss : List Said) (new : List LabelAt) → new ≡ labels → Zips k ss labels → Zips k ss new
  stays k ss new e h more z = subst (λ (ls : List LabelAt). AllZip (IsAt n) (text_labels 0 all) (ls ++ more)) (sym e) (h more z)

  zip_more : (y : Held) (ts : List Token) (new : List LabelAt) → (y ≡ held.DataBegins → ⊥) → AddsLabel n y count labels new → Zips count (seen y ts ∷ o.behind) labels
      → Zips (counted count (seen y ts)) o.behind new
  zip_more (held.Labelled l) ts new q b h = λ more z.
      subst (λ (ls : List LabelAt). AllZip (IsAt n) (text_labels 0 all) ls)
      (sym (ap (λ (ls : List LabelAt). ls ++ more) b.are ∙ append_assoc labels (record { label = b.label; at = count } ∷ []) more))
      (h (record { label = b.label; at = count } ∷ more) (record { label = b.is_label; at = refl }, z))
  zip_more held.Others ts new q b h =
      let next : suc count ≡ count + 1 = omega arith in
      stays (count + 1) o.behind new b (subst (λ (k : ℕ). Zips k o.behind labels) next h)
  zip_more held.DataBegins ts new q b h = absurd (q refl)
  zip_more held.Nothing ts new q b h = stays count o.behind new b h
  zip_more held.Unreadable ts new q b h = stays count o.behind new b h
  zip_more held.TextBegins ts new q b h = stays count o.behind new b h
  zip_more held.Mislabelled ts new q b h = stays count o.behind new b h
  zip_more (held.Word z) ts new q b h = stays count o.behind new b h
  zip_more (held.Byte z) ts new q b h = stays count o.behind new b h
  zip_more (held.Space z) ts new q b h = stays count o.behind new b h

  pub labels_more : (new : List LabelAt) (next : ℕ) → (x ≡ held.DataBegins → ⊥) → AddsLabel n x count labels new → next ≡ counted count (seen x o.tokens) → AreLabelsLeft d n all behind new next
  labels_more new next q adds e =
      record {
        left = o.behind;
        said = o.others;
        position = after (word_bytes d) a.position (seen x o.tokens);
        last = a.last;
        walks = walked.1;
        not_data = still_text x o.tokens a.position.part q a.not_data;
        count_is =
            count_more d.word x o.tokens a.position.part a.position.count walked.0.in_place ∙ ap (λ (k : ℕ). counted k (seen x o.tokens)) a.count_is ∙ sym e;
        known = λ y c. known_here y (taken_keeps (label_name (seen x o.tokens)) a.position.part (names_in InText (part_after a.position.part (seen x o.tokens)) o.behind) y c);
        zip =
            subst (λ (k : ℕ). Zips k o.behind new) (sym e)
            (zip_more x o.tokens new q adds (λ more z. a.zip more (subst (λ (ss : List Said). AllZip (IsAt n) (text_labels count ss) more) (sym o.are) z)));
      }

  -- at the data no label of the text part is left
  pub at_data : x ≡ held.DataBegins → AllZip (IsAt n) (text_labels 0 all) labels
  at_data e =
      let none : text_labels count a.left ≡ [] =
      ap (text_labels count) o.are ∙ ap (λ (y : Held). text_labels count (seen y o.tokens ∷ o.behind)) e in
      subst (λ (ls : List LabelAt). AllZip (IsAt n) (text_labels 0 all) ls) (append-nil labels) (a.zip [] (subst (λ (es : List (Label × ℕ)). AllZip (IsAt n) es []) (sym none) tt))

nothing_left : (ss : List Said) → AllZip Says [] ss → ss ≡ []
nothing_left [] a = refl
nothing_left (s ∷ ss) a = absurd a

pub at_end : (d : RawDescription) (n : Names) (all : List Said) (rest : List ℕ) (labels : List LabelAt) (count : ℕ) → rest ≡ [] → AreLabelsLeft d n all rest labels count
    → AllZip (IsAt n) (text_labels 0 all) labels
at_end d n all rest labels count e a =
    let none : a.left ≡ [] = nothing_left a.left (subst (λ (xs : List ℕ). AreSaid xs a.left) e a.said) in
    subst (λ (ls : List LabelAt). AllZip (IsAt n) (text_labels 0 all) ls) (append-nil labels)
    (a.zip [] (subst (λ (ss : List Said). AllZip (IsAt n) (text_labels count ss) []) (sym none) tt))
