-- The names of a text's labels, a line further.
use Rattle.std.proofs.Common.{◌≡◌, ℕ, ◌<◌, ◌≤◌, List, [], ◌∷◌, ◌++◌, length, Option, Some, None, refl, sym, ap, subst, ◌∙◌, arith}
use Rattle.std.proofs.lemmas.List.{append-nil}
use Rattle.std.specs.List.{AllZip}
use Rattle.asm_token.specs.Tokens.{Token}
use Rattle.rtl_tree.specs.Names.{AreNames}
use Rattle.rtl_tree.specs.declared.c_names.Names.{Names}
use Rattle.md_rows.specs.declared.description.RawDescription.{RawDescription}
use Rattle.asm_program.specs.declared.places.Part.{Part}
use Rattle.asm_program.specs.declared.places.Part.TheVariants.{Outside, InText, InData}
use Rattle.asm_program.specs.TextLines.{Label, Block, Symbol, Said, Nothing, Unreadable, TextBegins, DataBegins, Labelled, Mislabelled, Word, Byte, Space, Others, Says}
use Rattle.asm_program.specs.Places.{Position, start, after, part_after}
use Rattle.asm_program.specs.Rules.{AreSaid, StandsAt, Walks, word_bytes}
use Rattle.asm_labels.specs.declared.saying.Label.TheVariants as heldlabel
use Rattle.asm_labels.specs.declared.saying.Said.{Said as Held}
use Rattle.asm_labels.specs.declared.saying.Said.TheVariants as held
use Rattle.asm_labels.specs.Seen.{IsSaid, seen}
use Rattle.asm_labels.proofs.Opening.{Opens}
use Rattle.asm_names.specs.LabelNames.{Adds, AreNamesOf, CanAdd, IsNew, IsSoundText, label_name, names_in, taken}
use Rattle.asm_names.proofs.LabelLines.{label_has_name}
use Rattle.asm_names.proofs.Membership.{no_more}
use Rattle.asm_names.proofs.Listing.{Listed, starts, is_new, listed_stays, listed_adds}

pub record AreNamesLeft (d : RawDescription) (all : List Said) (rest : List ℕ) (part : Part) (n : Names) : Type 0 where
  pub left : List Said
  pub said : AreSaid rest left
  pub position : Position
  pub last : Position
  pub walks : Walks d all position left last
  pub part_is : position.part ≡ part
  pub functions : Listed all position InText part left n.functions
  pub objects : Listed all position InData part left n.objects
  pub few : length position.names ≤ 65000

pub at_start : (d : RawDescription) (all : List Said) (text : List ℕ) (n : Names) → IsSoundText d text all → n.objects ≡ [] → n.functions ≡ [] → AreNamesLeft d all text Outside n
at_start d all text n t e f =
    record {
      left = all;
      said = t.said;
      position = start;
      last = t.sound.last;
      walks = t.sound.walks;
      part_is = refl;
      functions = subst (λ (xs : List (List ℕ)). Listed all start InText Outside all xs) (sym f) (starts all start InText);
      objects = subst (λ (xs : List (List ℕ)). Listed all start InData Outside all xs) (sym e) (starts all start InData);
      few = omega arith;
    }

module _ (d : RawDescription) (all : List Said) (n : Names) where
  abbrev Both : Part → List Said → Position → Names → Type 0
  Both q left p m = Listed all p InText q left m.functions × Listed all p InData q left m.objects

  module _ (line rest behind : List ℕ) (x : Held) (part : Part) (a : AreNamesLeft d all rest part n) (o : Opens a.left line behind x) where
    walked : Walks d all a.position (seen x o.tokens ∷ o.behind) a.last
    walked = subst (λ (ss : List Said). Walks d all a.position ss a.last) o.are a.walks

    few_listed : (ns : List (List ℕ)) (wanted : Part) → AreNames ns → Listed all a.position wanted part a.left ns → length ns < 65536
    few_listed ns wanted names l = let h = no_more ns a.position.names names.different l.met in let few = a.few in omega (arith, h, few)

    new_name : (s : List ℕ) → AreNames n.objects → AreNames n.functions → Says line (Labelled (Symbol s)) → StandsAt all (Symbol s) a.position.line → IsNew n s
    new_name s objects functions says st =
        record {
          name = label_has_name s line (Labelled (Symbol s)) says refl;
          object = λ c. is_new all a.position.line s st (a.objects.earlier s c);
          function = λ c. is_new all a.position.line s st (a.functions.earlier s c);
          objects = few_listed n.objects InData objects a.objects;
          functions = few_listed n.functions InText functions a.functions;
        }

    can_add_by : (y : Held) (ts us vs : List Token) → AreNames n.objects → AreNames n.functions → Says line (seen y us) → ((l : Label) → seen y vs ≡ Labelled l → StandsAt all l a.position.line)
        → CanAdd n (label_name (seen y ts))
    can_add_by (held.Labelled (heldlabel.Symbol s)) ts us vs objects functions says st = new_name s.now objects functions says (st (Symbol s.now) refl)
    can_add_by (held.Labelled (heldlabel.Block b)) ts us vs objects functions says st = tt
    can_add_by held.Nothing ts us vs objects functions says st = tt
    can_add_by _ ts us vs objects functions says st = tt

    pub can_add : IsSaid line x → AreNames n.objects → AreNames n.functions → (ts : List Token) → CanAdd n (label_name (seen x ts))
    can_add s objects functions ts = can_add_by x ts s.tokens o.tokens objects functions s.says walked.0.first

  module _ (p : Position) (new : Names) where
    stay : (s : Said) (q : Part) (ss : List Said) → label_name s ≡ None → (new.objects ≡ n.objects) × (new.functions ≡ n.functions) → Both q (s ∷ ss) p n
        → Both (part_after q s) ss (after (word_bytes d) p s) new
    stay s q ss e a b = (
      listed_stays all (word_bytes d) p InText q s ss n.functions new.functions b.0 a.1 (ap (λ (o : Option (List ℕ)). taken InText q o (names_in InText (part_after q s) ss)) e),
      listed_stays all (word_bytes d) p InData q s ss n.objects new.objects b.1 a.0 (ap (λ (o : Option (List ℕ)). taken InData q o (names_in InData (part_after q s) ss)) e),
    )

    add : (s : List ℕ) (q : Part) (ss : List Said) → Adds q (Some s) n new → StandsAt all (Symbol s) p.line → Both q (Labelled (Symbol s) ∷ ss) p n
        → Both (part_after q (Labelled (Symbol s))) ss (after (word_bytes d) p (Labelled (Symbol s))) new
    add s InText ss a st b = (
      listed_adds all (word_bytes d) p InText InText (Labelled (Symbol s)) ss n.functions new.functions b.0 s a.1 refl refl st,
      listed_stays all (word_bytes d) p InData InText (Labelled (Symbol s)) ss n.objects new.objects b.1 a.0 refl,
    )
    add s InData ss a st b = (
      listed_stays all (word_bytes d) p InText InData (Labelled (Symbol s)) ss n.functions new.functions b.0 a.1 refl,
      listed_adds all (word_bytes d) p InData InData (Labelled (Symbol s)) ss n.objects new.objects b.1 s a.0 refl refl st,
    )
    add s Outside ss a st b = (
      listed_stays all (word_bytes d) p InText Outside (Labelled (Symbol s)) ss n.functions new.functions b.0 a.1 refl,
      listed_stays all (word_bytes d) p InData Outside (Labelled (Symbol s)) ss n.objects new.objects b.1 a.0 refl,
    )

    step : (y : Held) (q : Part) (ts : List Token) (ss : List Said) → Adds q (label_name (seen y ts)) n new → ((l : Label) → seen y ts ≡ Labelled l → StandsAt all l p.line)
        → Both q (seen y ts ∷ ss) p n → Both (part_after q (seen y ts)) ss (after (word_bytes d) p (seen y ts)) new
    step (held.Labelled (heldlabel.Symbol s)) q ts ss a st b = add s.now q ss a (st (Symbol s.now) refl) b
    step (held.Labelled (heldlabel.Block k)) q ts ss a st b = stay (Labelled (Block k)) q ss refl a b
    step held.Nothing q ts ss a st b = stay Nothing q ss refl a b
    step held.Unreadable q ts ss a st b = stay Unreadable q ss refl a b
    step held.TextBegins q ts ss a st b = stay TextBegins q ss refl a b
    step held.DataBegins q ts ss a st b = stay DataBegins q ss refl a b
    step held.Mislabelled q ts ss a st b = stay Mislabelled q ss refl a b
    step (held.Word z) q ts ss a st b = stay (Word z) q ss refl a b
    step (held.Byte z) q ts ss a st b = stay (Byte z) q ss refl a b
    step (held.Space z) q ts ss a st b = stay (Space z) q ss refl a b
    step held.Others q ts ss a st b = stay (Others ts) q ss refl a b

  pub names_more : (line rest behind : List ℕ) (x : Held) (part next : Part) (new : Names) (a : AreNamesLeft d all rest part n) → Opens a.left line behind x
      → ((ts : List Token) → Adds part (label_name (seen x ts)) n new) → ((ts : List Token) → next ≡ part_after part (seen x ts)) → AreNamesLeft d all behind next new
  names_more line rest behind x part next new a o adds e =
      let w = walked line rest behind x part a o in
      let both = step a.position new x part o.tokens o.behind (adds o.tokens) w.0.first
      (subst (λ (ss : List Said). Both part ss a.position n) o.are (a.functions, a.objects)) in
      let part_is : part_after part (seen x o.tokens) ≡ next = sym (e o.tokens) in
      record {
        left = o.behind;
        said = o.others;
        position = after (word_bytes d) a.position (seen x o.tokens);
        last = a.last;
        walks = w.1;
        part_is = ap (λ (q : Part). part_after q (seen x o.tokens)) a.part_is ∙ part_is;
        functions = subst (λ (q : Part). Listed all (after (word_bytes d) a.position (seen x o.tokens)) InText q o.behind new.functions) part_is both.0;
        objects = subst (λ (q : Part). Listed all (after (word_bytes d) a.position (seen x o.tokens)) InData q o.behind new.objects) part_is both.1;
        few = w.0.within.names;
      }

nothing_left : (ss : List Said) → AllZip Says [] ss → ss ≡ []
nothing_left [] a = refl
nothing_left (s ∷ ss) a = absurd a

pub at_end : (d : RawDescription) (all : List Said) (rest : List ℕ) (part : Part) (n : Names) → rest ≡ [] → AreNamesLeft d all rest part n → AreNamesOf n all
at_end d all rest part n e a =
    let none : a.left ≡ [] = nothing_left a.left (subst (λ (xs : List ℕ). AreSaid xs a.left) e a.said) in
    record {
      objects = sym (append-nil n.objects) ∙ sym (ap (λ (ss : List Said). n.objects ++ names_in InData part ss) none) ∙ a.objects.are;
      functions = sym (append-nil n.functions) ∙ sym (ap (λ (ss : List Said). n.functions ++ names_in InText part ss) none) ∙ a.functions.are;
    }
