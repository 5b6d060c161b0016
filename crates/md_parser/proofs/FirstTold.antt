-- Which of rules 1 to 3 is told.
use Rattle.std.proofs.Common.{◌≡◌, ℕ, ◌<◌, ◌≤◌, suc, Bool, true, false, not, List, [], ◌∷◌, ◌++◌, length, get_or, map, sym, ap, subst, ◌∙◌, arith, inl, inr, codes}
use Rattle.std.proofs.lemmas.Bool.{and_parts, cases_Bool, leb-true}
use Rattle.std.specs.List.{list_all, filter}
use Rattle.md_text.specs.Lines.{IsText, is_good_line, is_printable, HasBadLine, bad, unfinished, Line, numbered_from, is_skipped, kept, BeginsOtherwise, width_of}
use Rattle.md_text.specs.Forms.{Form, HasForm}
use Rattle.md_text.specs.Declarations.{Declaration, HaveForms, Declares}
use Rattle.md_text.specs.Accepted.{Rule, BadByte, OtherVersion, NoForm, BadHeading, OutOfRange, DeclaredTwice, NotDeclared, ReservedName, WrongRoles, BadTransfer, MisusedHole, ModeInMode, TooLarge, TooMany, number_of, Breaks, Told, HasOtherVersion}
use Rattle.md_text.proofs.Splits.{falls_once}
use Rattle.md_lines.specs.declared.lines.Line.{Line as ReadLine}
use Rattle.md_lines.specs.Kept.{line_of, KeepsLines, IsFirstBadLine}
use Rattle.md_forms.specs.declared.rules.Rule.{Rule as ReadRule}
use Rattle.md_forms.specs.declared.rules.Told.{Told as ReadTold}
use Rattle.md_forms.specs.SeenRules.{rule_of}
use Rattle.md_parser.specs.declared.text.ReadFault.{ReadFault}
use Rattle.md_parser.specs.declared.text.ReadFault.TheVariants.{Told as Given}
use Rattle.md_parser.specs.Formless.{AreShort, IsFirstFormless}
use Rattle.md_parser.specs.FirstRules.{BeginsWithVersion, KeepsFirstRules}

-- rules by their numbers

below_four : (P : Rule → Type 0) → P BadByte → P OtherVersion → P NoForm → (r : Rule) → number_of r < 4 → P r
below_four P a b c BadByte l = a
below_four P a b c OtherVersion l = b
below_four P a b c NoForm l = c
below_four P a b c BadHeading l = absurd (omega arith)
below_four P a b c OutOfRange l = absurd (omega arith)
below_four P a b c DeclaredTwice l = absurd (omega arith)
below_four P a b c NotDeclared l = absurd (omega arith)
below_four P a b c ReservedName l = absurd (omega arith)
below_four P a b c WrongRoles l = absurd (omega arith)
below_four P a b c BadTransfer l = absurd (omega arith)
below_four P a b c MisusedHole l = absurd (omega arith)
below_four P a b c ModeInMode l = absurd (omega arith)
below_four P a b c TooLarge l = absurd (omega arith)
below_four P a b c TooMany l = absurd (omega arith)

-- rule 1

good_in : (before after : List (List ℕ)) (line : List ℕ) → list_all is_good_line (before ++ line ∷ after) ≡ true → is_good_line line ≡ true
good_in [] after line h = (and_parts (is_good_line line) (list_all is_good_line after) h).0
good_in (b ∷ before) after line h = good_in before after line (and_parts (is_good_line b) (list_all is_good_line (before ++ line ∷ after)) h).1

no_bad : (text : List ℕ) (all : List (List ℕ)) (n : ℕ) → IsText text all → list_all is_good_line all ≡ true → HasBadLine text n → ⊥
no_bad text all _ t g (bad before after line rest f k) =
    let same = falls_once text (before ++ line ∷ after) all rest [] f t in
    let good : is_good_line line ≡ true = good_in before after line (ap (list_all is_good_line) same.0 ∙ g) in
    let no : true ≡ false → ⊥ = λ q. cc in
    no (sym good ∙ k)
no_bad text all _ t g (unfinished lines rest f k) = k (falls_once text lines all rest [] f t).1

pub bad_told : (text : List ℕ) (n : ℕ) → IsFirstBadLine text n → Told text BadByte n
bad_told text n h = record { broken = h.bad; least_rule = λ r l k. absurd (below_four (λ r. number_of r < 1 → ⊥) (λ q. omega arith) (λ q. omega arith) (λ q. omega arith) r (omega (arith, k)) k); least_line = h.first }

-- rule 2

same_lines : (text : List ℕ) (ls ms : List (List ℕ)) → IsText text ls → IsText text ms → ls ≡ ms
same_lines text ls ms p q = (falls_once text ls ms [] [] p q).0

otherwise_once : (ls : List Line) (m n : ℕ) → BeginsOtherwise ls m → BeginsOtherwise ls n → m ≡ n
otherwise_once [] m n p q = p ∙ sym q
otherwise_once (l ∷ ls) m n p q = p.0 ∙ sym q.0

version_or : (ls : List Line) (n : ℕ) → BeginsWithVersion ls → BeginsOtherwise ls n → ⊥
version_or [] n h k = h
version_or (l ∷ ls) n h k = k.1 h

no_other : (text : List ℕ) (all : List (List ℕ)) (n : ℕ) → IsText text all → BeginsWithVersion (kept all) → HasOtherVersion text n → ⊥
no_other text all n t h k = version_or (kept all) n h (subst (λ ls. BeginsOtherwise (kept ls) n) (same_lines text k.lines all k.is_text t) k.begins)

pub version_told : (text : List ℕ) (lines : List Line) (last n : ℕ) → KeepsLines text lines last → BeginsOtherwise lines n → Told text OtherVersion n
version_told text lines last n h b =
    let here : BeginsOtherwise (kept h.all) n = subst (λ ls. BeginsOtherwise ls n) h.are_kept b in
    record {
      broken = record { lines = h.all; is_text = h.is_text; begins = here };
      least_rule = λ r l k. below_four (λ r. number_of r < 2 → Breaks r text l → ⊥) (λ q. no_bad text h.all l h.is_text h.good) (λ q. absurd (omega arith)) (λ q. absurd (omega arith)) r (omega (arith, k)) k;
      least_line = λ l k o.
          let same = otherwise_once (kept h.all) l n (subst (λ ls. BeginsOtherwise (kept ls) l) (same_lines text o.lines h.all o.is_text h.is_text) o.begins) here in
          absurd (omega (arith, k, same));
    }

-- numbers of lines rise

abbrev Rises : ℕ → List Line → Type 0
Rises n [] = Unit {0}
Rises n (l ∷ ls) = (n ≤ l.number) × Rises (suc l.number) ls

rises_from : (m n : ℕ) (ls : List Line) → n ≤ m → Rises m ls → Rises n ls
rises_from m n [] l h = tt
rises_from m n (x ∷ ls) l h = (omega (arith, l, h.0), h.1)

numbered_rises : (n : ℕ) (ls : List (List ℕ)) → Rises n (numbered_from n ls)
numbered_rises n [] = tt
numbered_rises n (l ∷ ls) = (omega arith, numbered_rises (suc n) ls)

filter_rises : (p : Line → Bool) (n : ℕ) (ls : List Line) → Rises n ls → Rises n (filter p ls)
filter_rises p n [] h = tt
filter_rises p n (l ∷ ls) h = elim (cases_Bool (p l)) [
  | inl e ↦ rw e (h.0, filter_rises p (suc l.number) ls h.1)
  | inr e ↦ rw e (rises_from (suc l.number) n (filter p ls) (omega (arith, h.0)) (filter_rises p (suc l.number) ls h.1))
]

kept_rises : (all : List (List ℕ)) → Rises 1 (kept all)
kept_rises all = filter_rises (λ line. not (is_skipped line.bytes)) 1 (numbered_from 1 all) (numbered_rises 1 all)

later : (n : ℕ) (bs after : List Line) (it : Line) → Rises n (bs ++ it ∷ after) → n ≤ it.number
later n [] after it h = h.0
later n (b ∷ bs) after it h = omega (arith, h.0, later (suc b.number) bs after it h.1)

-- a form of a line

record Formed (w : ℕ) (line : Line) : Type 0 where
  form : Form
  has : HasForm w line.bytes form

head_line : (a b : Line) (ls ms : List Line) → a ∷ ls ≡ b ∷ ms → a ≡ b
head_line a b ls ms e = cc

tail_line : (a b : Line) (ls ms : List Line) → a ∷ ls ≡ b ∷ ms → ls ≡ ms
tail_line a b ls ms e = cc

first_formed : (w : ℕ) (b it : Line) (bs : List Line) (ds : List Declaration) → b ≡ it → HaveForms w (b ∷ bs) ds → Formed w it
first_formed w b it bs [] e h = absurd h
first_formed w b it bs (d ∷ ds) e h = subst (Formed w) e (record { form = d.form; has = h.1 })

rest_formed : (w : ℕ) (b : Line) (bs : List Line) (ds : List Declaration) → HaveForms w (b ∷ bs) ds → (es : List Declaration) × HaveForms w bs es
rest_formed w b bs [] h = absurd h
rest_formed w b bs (d ∷ ds) h = (ds, h.2)

-- a line of a lesser number stands before
formed_before : (w n : ℕ) (before after bs cs : List Line) (it other : Line) (ds : List Declaration) → Rises n (before ++ it ∷ after) → before ++ it ∷ after ≡ bs ++ other ∷ cs → other.number < it.number
    → HaveForms w before ds → Formed w other
formed_before w n [] after [] cs it other ds r e l h = absurd (omega (arith, l, ap (λ (x : Line). x.number) (head_line it other after cs e)))
formed_before w n [] after (b ∷ bs) cs it other ds r e l h =
    let more : suc it.number ≤ other.number = later (suc it.number) bs cs other (subst (Rises (suc it.number)) (tail_line it b after (bs ++ other ∷ cs) e) r.1) in
    absurd (omega (arith, l, more))
formed_before w n (a ∷ before) after [] cs it other ds r e l h = first_formed w a other before ds (head_line a other (before ++ it ∷ after) cs e) h
formed_before w n (a ∷ before) after (b ∷ bs) cs it other ds r e l h =
    let rest = rest_formed w a before ds h in
    formed_before w (suc a.number) before after bs cs it other rest.0 r.1 (tail_line a b (before ++ it ∷ after) (bs ++ other ∷ cs) e) l rest.1

formed_in : (w : ℕ) (bs cs : List Line) (other : Line) (ls : List Line) (ds : List Declaration) → ls ≡ bs ++ other ∷ cs → HaveForms w ls ds → Formed w other
formed_in w [] cs other [] ds e h = absurd (let no : [] ≡ other ∷ cs → ⊥ = λ q. cc in no e)
formed_in w [] cs other (l ∷ ls) ds e h = first_formed w l other ls ds (head_line l other ls cs e) h
formed_in w (b ∷ bs) cs other [] ds e h = absurd (let no : [] ≡ b ∷ (bs ++ other ∷ cs) → ⊥ = λ q. cc in no e)
formed_in w (b ∷ bs) cs other (l ∷ ls) ds e h =
    let rest = rest_formed w l ls ds h in
    formed_in w bs cs other ls rest.0 (tail_line l b ls (bs ++ other ∷ cs) e) rest.1

-- rule 3

pub form_told : (text : List ℕ) (lines : List Line) (last w n : ℕ) → KeepsLines text lines last → BeginsWithVersion lines → w ≡ width_of lines → IsFirstFormless w lines n → Told text NoForm n
form_told text lines last w n h v e f =
    let split : kept h.all ≡ f.before ++ f.it ∷ f.after = sym h.are_kept ∙ f.split in
    let width : w ≡ width_of (kept h.all) = e ∙ ap width_of h.are_kept in
    let version : BeginsWithVersion (kept h.all) = subst BeginsWithVersion h.are_kept v in
    record {
      broken = record { lines = h.all; is_text = h.is_text; before = f.before; after = f.after; it = f.it; split = split; number = sym f.number; never = λ form k. f.never form (subst (λ v. HasForm v f.it.bytes form) (sym width) k) };
      least_rule = λ r l k. below_four (λ r. number_of r < 3 → Breaks r text l → ⊥) (λ q. no_bad text h.all l h.is_text h.good) (λ q. no_other text h.all l h.is_text version) (λ q. absurd (omega arith)) r (omega (arith, k)) k;
      least_line = λ l k o.
          let same : o.lines ≡ h.all = same_lines text o.lines h.all o.is_text h.is_text in
          let both : f.before ++ f.it ∷ f.after ≡ o.before ++ o.it ∷ o.after = sym split ∙ ap kept (sym same) ∙ o.split in
          let formed = formed_before w 1 f.before f.after o.before o.after f.it o.it f.said (subst (Rises 1) split (kept_rises h.all)) both (omega (arith, k, o.number, f.number)) f.have in
          o.never formed.form (subst (λ v. HasForm v o.it.bytes formed.form) (width ∙ ap (λ ls. width_of (kept ls)) (sym same)) formed.has);
    }

pub keeps_rules : (text : List ℕ) (lines : List Line) (last w : ℕ) (ds : List Declaration) → KeepsLines text lines last → BeginsWithVersion lines → w ≡ width_of lines → HaveForms w lines ds → KeepsFirstRules text
keeps_rules text lines last w ds h v e f rule line l =
    let width : w ≡ width_of (kept h.all) = e ∙ ap width_of h.are_kept in
    below_four (λ r. Breaks r text line → ⊥) (no_bad text h.all line h.is_text h.good)
    (no_other text h.all line h.is_text (subst BeginsWithVersion h.are_kept v))
    (λ o.
    let same : o.lines ≡ h.all = same_lines text o.lines h.all o.is_text h.is_text in
    let formed = formed_in w o.before o.after o.it lines ds (h.are_kept ∙ ap kept (sym same) ∙ o.split) f in
    o.never formed.form (subst (λ v. HasForm v o.it.bytes formed.form) (width ∙ ap (λ ls. width_of (kept ls)) (sym same)) formed.has))
    rule l

pub text_declares : (text : List ℕ) (lines : List Line) (last w : ℕ) (ds : List Declaration) → KeepsLines text lines last → w ≡ width_of lines → HaveForms w lines ds → Declares text (record { width = w; all = ds; last = last })
text_declares text lines last w ds h e f = record {
  lines = h.all;
  is_text = h.is_text;
  width = e ∙ ap width_of h.are_kept;
  forms = subst (λ ls. HaveForms w ls ds) h.are_kept f;
  last = h.count;
}

-- kept lines are short

short_line : (line : List ℕ) → is_good_line line ≡ true → length line ≤ 255
short_line line h = leb-true (length line) 255 (and_parts _ (list_all is_printable line) h).0

short_numbered : (n : ℕ) (ls : List (List ℕ)) → list_all is_good_line ls ≡ true → AreShort (numbered_from n ls)
short_numbered n [] h = tt
short_numbered n (l ∷ ls) h = let both = and_parts (is_good_line l) (list_all is_good_line ls) h in (short_line l both.0, short_numbered (suc n) ls both.1)

short_filtered : (p : Line → Bool) (ls : List Line) → AreShort ls → AreShort (filter p ls)
short_filtered p [] h = tt
short_filtered p (l ∷ ls) h = elim (cases_Bool (p l)) [
  | inl e ↦ rw e (h.0, short_filtered p ls h.1)
  | inr e ↦ rw e (short_filtered p ls h.1)
]

pub kept_short : (text : List ℕ) (lines : List Line) (last : ℕ) → KeepsLines text lines last → AreShort lines
kept_short text lines last h = subst AreShort (sym h.are_kept) (short_filtered (λ line. not (is_skipped line.bytes)) (numbered_from 1 h.all) (short_numbered 1 h.all h.good))

pub version_at : (ls : List ReadLine) (d : ReadLine) → 0 < length ls → (get_or ls 0 d).bytes.now ≡ codes "vpo 1" → BeginsWithVersion (map line_of ls)
version_at [] d l e = absurd (omega arith)
version_at (x ∷ ls) d l e = e

pub at_slice : (text : List ℕ) (xs ys : List ReadLine) (last : ℕ) → KeepsLines text (map line_of xs) last → ys ≡ xs → KeepsLines text (map line_of ys) last
at_slice text xs ys last h e = subst (λ zs. KeepsLines text (map line_of zs) last) (sym e) h

pub as_told : (text : List ℕ) (rule : ReadRule) (line : ℕ) (t : ReadTold) (f : ReadFault) → f ≡ Given (record { rule = rule; line = line }) → f ≡ Given t → Told text (rule_of rule) line → Told text (rule_of t.rule) t.line
as_told text rule line t f e g h =
    let told : ReadTold = record { rule = rule; line = line } in
    let same : told ≡ t = given told t (sym e ∙ g) in
    subst (λ u. Told text (rule_of u.rule) u.line) same h
  where
    given : (t u : ReadTold) → Given t ≡ Given u → t ≡ u
    given t u e = cc
