-- Reading the lines of a text, one by one.
use Rattle.std.proofs.Common.{◌≡◌, ℕ, ◌+◌, ◌-◌, ◌<◌, ◌≤◌, suc, Bool, true, false, not, eqb, List, [], ◌∷◌, ◌++◌, length, map, refl, sym, ap, subst, ◌∙◌, arith, inl, inr, length-append}
use Rattle.std.proofs.lemmas.Bool.{and_parts, cases_Bool, eqb-true}
use Rattle.std.proofs.lemmas.Grind.{flat_map-append}
use Rattle.std.proofs.lemmas.List.{append_assoc, append-nil, map-append}
use Rattle.std.proofs.lemmas.List.Folds.{list_all-append}
use Rattle.std.specs.List.{list_all, filter}
use Rattle.md_text.specs.Lines.{lacks, is_one_line, text_of, FallsInto, is_good_line, HasBadLine, bad, unfinished, Line, numbered_from, is_skipped, kept}
use Rattle.md_text.proofs.Bytes.{and_true}
use Rattle.md_text.proofs.Splits.{one_more_line, falls_once}
use Rattle.md_lines.specs.declared.lines.Line.{Line as ReadLine}
use Rattle.md_lines.specs.Parts.{IsSplitAtByte}
use Rattle.md_lines.specs.Kept.{line_of, IsFirstBadLine}

-- lines with a line behind them

numbered_more : (n : ℕ) (ls : List (List ℕ)) (l : List ℕ) → numbered_from n (ls ++ l ∷ []) ≡ numbered_from n ls ++ record { number = n + length ls; bytes = l } ∷ []
numbered_more n [] l = let e : n ≡ n + 0 = omega arith in ap (λ k. record { number = k; bytes = l } ∷ []) e
numbered_more n (k ∷ ls) l =
    let e : suc n + length ls ≡ n + suc (length ls) = omega arith in
    ap (λ ms. record { number = n; bytes = k } ∷ ms) (numbered_more (suc n) ls l ∙ ap (λ m. numbered_from (suc n) ls ++ record { number = m; bytes = l } ∷ []) e)

filter_more : (p : Line → Bool) (xs : List Line) (x : Line) → filter p (xs ++ x ∷ []) ≡ filter p xs ++ filter p (x ∷ [])
filter_more p [] x = refl
filter_more p (y ∷ xs) x = elim (cases_Bool (p y)) [
  | inl e ↦ rw e (ap (λ ys. y ∷ ys) (filter_more p xs x))
  | inr e ↦ rw e (filter_more p xs x)
]

kept_more : (ls : List (List ℕ)) (l : List ℕ) → kept (ls ++ l ∷ []) ≡ kept ls ++ filter (λ line. not (is_skipped line.bytes)) (record { number = 1 + length ls; bytes = l } ∷ [])
kept_more ls l =
    ap (filter (λ line. not (is_skipped line.bytes))) (numbered_more 1 ls l)
    ∙ filter_more (λ line. not (is_skipped line.bytes)) (numbered_from 1 ls) (record { number = 1 + length ls; bytes = l })

kept_skipped : (ls : List (List ℕ)) (l : List ℕ) → is_skipped l ≡ true → kept (ls ++ l ∷ []) ≡ kept ls
kept_skipped ls l e = kept_more ls l ∙ rw e (append-nil (kept ls))

kept_said : (ls : List (List ℕ)) (l : List ℕ) → is_skipped l ≡ false → kept (ls ++ l ∷ []) ≡ kept ls ++ record { number = 1 + length ls; bytes = l } ∷ []
kept_said ls l e = kept_more ls l ∙ rw e refl

-- these lines are read of the text, up to the rest
pub record ReadTo (text rest : List ℕ) (lines : List Line) (number : ℕ) : Type 0 where
  pub done : List (List ℕ)
  pub whole : text ≡ text_of done ++ rest
  pub each : list_all is_one_line done ≡ true
  pub good : list_all is_good_line done ≡ true
  pub keeps : lines ≡ kept done
  pub count : number ≡ 1 + length done
  pub within : number + length rest ≤ 1 + length text

one_line : (t line after : List ℕ) → t ++ (line ++ 10 ∷ after) ≡ (t ++ text_of (line ∷ [])) ++ after
one_line t line after = simp append_assoc refl

more_text : (text rest line after : List ℕ) (done : List (List ℕ)) → text ≡ text_of done ++ rest → rest ≡ line ++ 10 ∷ after → text ≡ text_of (done ++ line ∷ []) ++ after
more_text text rest line after done e f =
    e ∙ ap (λ r. text_of done ++ r) f ∙ one_line (text_of done) line after
    ∙ ap (λ t. t ++ after) (sym (flat_map-append (λ l. l ++ 10 ∷ []) done (line ∷ [])))

one_more : (p : List ℕ → Bool) (done : List (List ℕ)) (line : List ℕ) → list_all p done ≡ true → p line ≡ true → list_all p (done ++ line ∷ []) ≡ true
one_more p done line h k = list_all-append p done (line ∷ []) ∙ rw h (rw k refl)

-- with one line more, of which this is kept
read_line : (text rest line after : List ℕ) (lines more : List Line) (number : ℕ) (r : ReadTo text rest lines number) → IsSplitAtByte 10 rest line after → is_good_line line ≡ true → more ≡ kept (r.done ++ line ∷ []) → ReadTo text after more (number + 1)
read_line text rest line after lines more number r s g k = record {
  done = r.done ++ line ∷ [];
  whole = more_text text rest line after r.done r.whole s.text;
  each = one_more is_one_line r.done line r.each s.first;
  good = one_more is_good_line r.done line r.good g;
  keeps = k;
  count = omega (arith, r.count, length-append r.done (line ∷ []));
  within = omega (arith, r.within, ap length s.text, length-append line (10 ∷ after));
}

pub skipped_read : (text rest line after : List ℕ) (lines : List Line) (number : ℕ) → ReadTo text rest lines number → IsSplitAtByte 10 rest line after → is_good_line line ≡ true → is_skipped line ≡ true → ReadTo text after lines (number + 1)
skipped_read text rest line after lines number r s g k =
    read_line text rest line after lines lines number r s g (r.keeps ∙ sym (kept_skipped r.done line k))

pub said_read : (text rest line after : List ℕ) (lines : List Line) (number : ℕ) → ReadTo text rest lines number → IsSplitAtByte 10 rest line after → is_good_line line ≡ true → is_skipped line ≡ false → ReadTo text after (lines ++ record { number = number; bytes = line } ∷ []) (number + 1)
said_read text rest line after lines number r s g k =
    read_line text rest line after lines (lines ++ record { number = number; bytes = line } ∷ []) number r s g
    (ap (λ ls. ls ++ record { number = number; bytes = line } ∷ []) r.keeps
    ∙ ap (λ n. kept r.done ++ record { number = n; bytes = line } ∷ []) r.count ∙ sym (kept_said r.done line k))

-- each text falls into lines
record Falls (text : List ℕ) : Type 0 where
  lines : List (List ℕ)
  rest : List ℕ
  falls : FallsInto text lines rest

empty_falls : (text : List ℕ) → Falls text → Falls (10 ∷ text)
empty_falls text f = record {
  lines = [] ∷ f.lines;
  rest = f.rest;
  falls = record { whole = ap (λ t. 10 ∷ t) f.falls.whole; each = f.falls.each; unended = f.falls.unended };
}

longer_line : (b : ℕ) (text : List ℕ) (ls : List (List ℕ)) (rest : List ℕ) → not (eqb b 10) ≡ true → FallsInto text ls rest → Falls (b ∷ text)
longer_line b text [] rest n f = record {
  lines = [];
  rest = b ∷ rest;
  falls = record { whole = ap (λ t. b ∷ t) f.whole; each = refl; unended = and_true (not (eqb b 10)) (is_one_line rest) n f.unended };
}
longer_line b text (l ∷ ls) rest n f =
    let both = and_parts (is_one_line l) (list_all is_one_line ls) f.each in
    record {
      lines = (b ∷ l) ∷ ls;
      rest = rest;
      falls = record {
        whole = ap (λ t. b ∷ t) f.whole;
        each = and_true (is_one_line (b ∷ l)) (list_all is_one_line ls) (and_true (not (eqb b 10)) (is_one_line l) n both.0) both.1;
        unended = f.unended;
      };
    }

other_passes : (r : Bool) → r ≡ false → not r ≡ true
other_passes r e = rw e refl

falls : (text : List ℕ) → Falls text
falls [] = record { lines = []; rest = []; falls = record { whole = refl; each = refl; unended = refl } }
falls (b ∷ text) =
    let more = falls text in
    elim (cases_Bool (eqb b 10)) [
      | inl e ↦ subst (λ c. Falls (c ∷ text)) (sym (eqb-true b 10 e)) (empty_falls text more)
      | inr e ↦ longer_line b text more.lines more.rest (other_passes (eqb b 10) e) more.falls
    ]

-- lines that are good before any bad one

first_same : (x y : List ℕ) (xs ys : List (List ℕ)) → x ∷ xs ≡ y ∷ ys → x ≡ y
first_same x y xs ys e = cc

rest_same : (x y : List ℕ) (xs ys : List (List ℕ)) → x ∷ xs ≡ y ∷ ys → xs ≡ ys
rest_same x y xs ys e = cc

good_within : (done more before after : List (List ℕ)) (line : List ℕ) → before ++ line ∷ after ≡ done ++ more → length before < length done → list_all is_good_line done ≡ true → is_good_line line ≡ true
good_within [] more before after line e l h = absurd (omega arith)
good_within (d ∷ done) more [] after line e l h = ap is_good_line (first_same line d after (done ++ more) e) ∙ (and_parts (is_good_line d) (list_all is_good_line done) h).0
good_within (d ∷ done) more (b ∷ before) after line e l h =
    good_within done more before after line (rest_same b d (before ++ line ∷ after) (done ++ more) e) (omega (arith, l)) (and_parts (is_good_line d) (list_all is_good_line done) h).1

clash : {A : Type 0} (b : Bool) → b ≡ true → b ≡ false → A
clash b p q = let no : true ≡ false → ⊥ = λ e. cc in absurd (no (sym p ∙ q))

pub none_before : (text : List ℕ) (done more : List (List ℕ)) (rest : List ℕ) (m : ℕ) → FallsInto text (done ++ more) rest → list_all is_good_line done ≡ true → m < 1 + length done → HasBadLine text m → ⊥
none_before text done more rest _ f h l (bad before after line other g k) =
    let same = falls_once text (before ++ line ∷ after) (done ++ more) other rest g f in
    clash (is_good_line line) (good_within done more before after line same.0 (omega (arith, l)) h) k
none_before text done more rest _ f h l (unfinished lines other g k) =
    let same = falls_once text lines (done ++ more) other rest g f in
    absurd (omega (arith, l, ap length same.0, length-append done more))

-- the text ends without a line feed
pub unended_bad : (text rest : List ℕ) (lines : List Line) (number : ℕ) → ReadTo text rest lines number → 0 < length rest → lacks 10 rest ≡ true → IsFirstBadLine text number
unended_bad text rest lines number r l h =
    let f : FallsInto text r.done rest = record { whole = r.whole; each = r.each; unended = h } in
    let n : suc (length r.done) ≡ number = omega (arith, r.count) in
    let some : rest ≡ [] → ⊥ = λ e. absurd (omega (arith, l, ap length e)) in
    record {
      bad = subst (HasBadLine text) n (unfinished r.done rest f some);
      first = λ m k b. none_before text r.done [] rest m (subst (λ ls. FallsInto text ls rest) (sym (append-nil r.done)) f) r.good (omega (arith, k, r.count)) b;
    }

-- the next line is bad
pub line_bad : (text rest line after : List ℕ) (lines : List Line) (number : ℕ) → ReadTo text rest lines number → IsSplitAtByte 10 rest line after → is_good_line line ≡ false → IsFirstBadLine text number
line_bad text rest line after lines number r s g =
    let more = falls after in
    let each : list_all is_one_line (r.done ++ line ∷ more.lines) ≡ true =
    list_all-append is_one_line r.done (line ∷ more.lines) ∙ and_true (list_all is_one_line r.done) (list_all is_one_line (line ∷ more.lines)) r.each
    (and_true (is_one_line line) (list_all is_one_line more.lines) s.first more.falls.each) in
    let whole : text ≡ text_of (r.done ++ line ∷ more.lines) ++ more.rest =
    r.whole ∙ ap (λ t. text_of r.done ++ t) (s.text ∙ ap (λ t. line ++ 10 ∷ t) more.falls.whole ∙ sym (one_more_line line more.rest more.lines))
    ∙ sym (append_assoc (text_of r.done) (text_of (line ∷ more.lines)) more.rest)
    ∙ ap (λ t. t ++ more.rest) (sym (flat_map-append (λ l. l ++ 10 ∷ []) r.done (line ∷ more.lines))) in
    let f : FallsInto text (r.done ++ line ∷ more.lines) more.rest = record { whole = whole; each = each; unended = more.falls.unended } in
    let n : suc (length r.done) ≡ number = omega (arith, r.count) in
    record {
      bad = subst (HasBadLine text) n (bad r.done more.lines line more.rest f g);
      first = λ m k b. none_before text r.done (line ∷ more.lines) more.rest m f r.good (omega (arith, k, r.count)) b;
    }

-- as they stand in the program

pub pushed : (xs ys : List ReadLine) (x : ReadLine) → ys ≡ xs ++ x ∷ [] → map line_of ys ≡ map line_of xs ++ line_of x ∷ []
pushed xs ys x e = ap (map line_of) e ∙ map-append line_of xs (x ∷ [])

pub pushed_read : (text rest line after : List ℕ) (xs ys : List ReadLine) (x : ReadLine) (number : ℕ) → ReadTo text rest (map line_of xs) number → IsSplitAtByte 10 rest line after → is_good_line line ≡ true → is_skipped line ≡ false → line_of x ≡ record { number = number; bytes = line } → ys ≡ xs ++ x ∷ [] → ReadTo text after (map line_of ys) (number + 1)
pushed_read text rest line after xs ys x number r s g k e p =
    let P : List Line → Type 0 = λ ls. ReadTo text after ls (number + 1) in
    subst P (sym (pushed xs ys x p ∙ ap (λ l. map line_of xs ++ l ∷ []) e)) (said_read text rest line after (map line_of xs) number r s g k)
