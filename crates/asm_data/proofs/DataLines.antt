-- The data, a line further.
use Rattle.std.proofs.Common.{◌≡◌, ℕ, ◌+◌, ◌-◌, ◌/◌, ◌<◌, ◌≤◌, List, [], ◌∷◌, ◌++◌, length, map, refl, sym, ap, subst, ◌∙◌, arith, append_assoc, true, inl, inr}
use Rattle.std.specs.List.{AllZip}
use Rattle.rtl_word.specs.Words.{IsWordSize}
use Rattle.asm_token.specs.Tokens.{Token}
use Rattle.md_rows.specs.declared.description.RawDescription.{RawDescription}
use Rattle.asm_program.specs.declared.places.Part.{Part}
use Rattle.asm_program.specs.declared.places.Part.TheVariants.{InData}
use Rattle.asm_program.specs.TextLines.{Said, Says}
use Rattle.asm_program.specs.Places.{Position, after, part_after, reach_after, reach_in}
use Rattle.asm_program.specs.Rules.{AreSaid, Walks, word_bytes, is_in_place}
use Rattle.asm_program.specs.Programs.{bytes_after, bytes_from, objects_from, object_of}
use Rattle.asm_labels.specs.declared.saying.Said.{Said as Held}
use Rattle.asm_labels.specs.Seen.{seen}
use Rattle.asm_data.specs.Data.{AreData, AreDataLeft, HasNumber, addresses}
use Rattle.asm_labels.proofs.Opening.{Opens}
use Rattle.asm_data.proofs.Ranges.{in_range}
use Rattle.asm_data.proofs.Reach.{reaches}

pub at_start : (d : RawDescription) (text : List ℕ) (lines : List Said) → AreData d text lines [] → AreDataLeft d lines text [] []
at_start d text lines a = record { left = lines; now = a; bytes_are = refl; symbols_are = refl }

map_append : {A B : Type 0} (f : A → B) (xs ys : List A) → map f (xs ++ ys) ≡ map f xs ++ map f ys
map_append f [] ys = refl
map_append f (x ∷ xs) ys = ap (λ (zs : List _). f x ∷ zs) (map_append f xs ys)

module _ (d : RawDescription) (x : Held) where
  -- a line that is met, and those behind it
  pub record Meets (lines : List Said) (line rest : List ℕ) (symbols bytes : List ℕ) : Type 0 where
    pub all : List Said
    pub position : Position
    pub last : Position
    pub tokens : List Token
    pub behind : List Said
    pub others : AreSaid rest behind
    pub walks : Walks d all position (seen x tokens ∷ behind) last
    pub part : position.part ≡ InData
    pub reach : position.reach ≡ length bytes
    pub bytes_are : bytes_from (word_bytes d) bytes (seen x tokens ∷ behind) ≡ bytes_from (word_bytes d) [] lines
    pub symbols_are : symbols ++ addresses d bytes (seen x tokens ∷ behind) ≡ addresses d [] lines

  pub meets : (lines : List Said) (text line rest : List ℕ) (symbols bytes : List ℕ) → (a : AreDataLeft d lines text symbols bytes) → Opens a.left line rest x → Meets lines line rest symbols bytes
  meets lines text line rest symbols bytes a o =
      record {
        all = a.now.all;
        position = a.now.position;
        last = a.now.last;
        tokens = o.tokens;
        behind = o.behind;
        others = o.others;
        walks = subst (λ (ss : List Said). Walks d a.now.all a.now.position ss a.now.last) o.are a.now.walks;
        part = a.now.part;
        reach = a.now.reach;
        bytes_are = subst (λ (ss : List Said). bytes_from (word_bytes d) bytes ss ≡ bytes_from (word_bytes d) [] lines) o.are a.bytes_are;
        symbols_are = subst (λ (ss : List Said). symbols ++ addresses d bytes ss ≡ addresses d [] lines) o.are a.symbols_are;
      }

  module _ (lines : List Said) (line rest : List ℕ) (symbols bytes : List ℕ) (m : Meets lines line rest symbols bytes) where
    pub number_fits : IsWordSize d.word → HasNumber (d.word / 8) x
    number_fits s = in_range d.word x m.tokens s (subst (λ (p : Part). is_in_place d.word p (seen x m.tokens) ≡ true) m.part m.walks.0.in_place)

    reach_is : (part : Part) (k : ℕ) → part ≡ InData → k ≡ length bytes → 0 < word_bytes d → reach_in part (word_bytes d) k (seen x m.tokens) ≡ length (bytes_after (word_bytes d) bytes (seen x m.tokens))
    reach_is part k e f h =
        ap (λ (p : Part). reach_in p (word_bytes d) k (seen x m.tokens)) e
        ∙ ap (λ (n : ℕ). reach_after (word_bytes d) n (seen x m.tokens)) f
        ∙ sym (reaches (word_bytes d) bytes (seen x m.tokens) h)

    pub data_fits : 0 < word_bytes d → d.base + length (bytes_after (word_bytes d) bytes (seen x m.tokens)) ≤ d.memory - d.stack
    data_fits h =
        subst (λ (n : ℕ). d.base + n ≤ d.memory - d.stack) (reach_is m.position.part m.position.reach m.part m.reach h) m.walks.0.within.statics

    stays_data : (s : Said) → part_after InData s ≡ InData
    stays_data s = refl

    pub data_more : (more found : List ℕ) → 0 < word_bytes d → more ≡ bytes_after (word_bytes d) bytes (seen x m.tokens)
        → found ≡ symbols ++ map (λ o. o.1) (object_of (d.base + length more) (seen x m.tokens)) → AreDataLeft d lines rest found more
    data_more more found h e f =
        let part_is : part_after m.position.part (seen x m.tokens) ≡ InData = ap (λ (p : Part). part_after p (seen x m.tokens)) m.part in
        record {
          left = m.behind;
          now = record {
            all = m.all;
            position = after (word_bytes d) m.position (seen x m.tokens);
            last = m.last;
            said = m.others;
            walks = m.walks.1;
            part = part_is;
            reach = reach_is m.position.part m.position.reach m.part m.reach h ∙ ap length (sym e);
          };
          bytes_are = ap (λ (bs : List ℕ). bytes_from (word_bytes d) bs m.behind) e ∙ m.bytes_are;
          symbols_are =
              ap (λ (ss : List ℕ). ss ++ addresses d more m.behind) f
              ∙ append_assoc symbols (map (λ o. o.1) (object_of (d.base + length more) (seen x m.tokens))) (addresses d more m.behind)
              ∙ ap (λ (ss : List ℕ). symbols ++ ss) (sym (map_append (λ o. o.1) (object_of (d.base + length more) (seen x m.tokens)) (objects_from d.base (word_bytes d) more m.behind)))
              ∙ ap (λ (bs : List ℕ). symbols ++ map (λ o. o.1) (object_of (d.base + length bs) (seen x m.tokens) ++ objects_from d.base (word_bytes d) bs m.behind)) e
              ∙ m.symbols_are;
        }

nothing_left : (left : List Said) (rest : List ℕ) → rest ≡ [] → AreSaid rest left → left ≡ []
nothing_left left rest e a = by_lines left (subst (λ (xs : List ℕ). AreSaid xs left) e a)
  where
    by_lines : (ss : List Said) → AllZip Says [] ss → ss ≡ []
    by_lines [] a = refl
    by_lines (s ∷ ss) a = absurd a

pub record AreAll (d : RawDescription) (lines : List Said) (symbols bytes : List ℕ) : Type 0 where
  pub bytes_are : bytes ≡ bytes_from (word_bytes d) [] lines
  pub symbols_are : symbols ≡ addresses d [] lines

pub at_end : (d : RawDescription) (lines : List Said) (rest symbols bytes : List ℕ) → rest ≡ [] → AreDataLeft d lines rest symbols bytes → AreAll d lines symbols bytes
at_end d lines rest symbols bytes e a =
    let none : a.left ≡ [] = nothing_left a.left rest e a.now.said in
    record {
      bytes_are = sym (ap (bytes_from (word_bytes d) bytes) none) ∙ a.bytes_are;
      symbols_are = sym (append_nothing symbols) ∙ sym (ap (λ (ss : List Said). symbols ++ addresses d bytes ss) none) ∙ a.symbols_are;
    }
  where
    append_nothing : (xs : List ℕ) → xs ++ [] ≡ xs
    append_nothing [] = refl
    append_nothing (x ∷ xs) = ap (λ (ys : List ℕ). x ∷ ys) (append_nothing xs)

pub word_positive : (d : RawDescription) → IsWordSize d.word → 0 < word_bytes d
word_positive d (inl e) = subst (λ (w : ℕ). 0 < w / 8) (sym e) (omega arith)
word_positive d (inr e) = subst (λ (w : ℕ). 0 < w / 8) (sym e) (omega arith)
