-- The first line of a text.
use Rattle.std.proofs.Common.{◌≡◌, ℕ, suc, ◌+◌, ◌-◌, ◌<◌, ◌≤◌, ◌==◌, Bool, true, false, not, cond, List, [], ◌∷◌, length, take, drop, refl, sym, ap, subst, ◌∙◌, arith, length-drop}
use Rattle.std.proofs.Math.Seq.{take-length, drop-length}
use Rattle.std.specs.List.{prefix_len}
use Rattle.asm_program.specs.TextLines.{lines_of, onto}
use Rattle.asm_labels.specs.Seen.{is_within_line}

-- how many bytes stand before the first line feed
abbrev pub line_length : List ℕ → ℕ
line_length text = prefix_len is_within_line text

by_first : (c : Bool) (b : ℕ) (bs : List ℕ) (n k : ℕ) → n ≡ line_length bs → k ≡ suc n → (line_length bs < length bs → lines_of bs ≡ take (line_length bs) bs ∷ lines_of (drop (suc (line_length bs)) bs))
    → cond (not c) k 0 < suc (length bs)
    → cond c ([] ∷ lines_of bs) (onto b (lines_of bs)) ≡ take (cond (not c) k 0) (b ∷ bs) ∷ lines_of (drop (suc (cond (not c) k 0)) (b ∷ bs))
by_first true b bs n k e f rest h = refl
by_first false b bs n k e f rest h =
    let whole : lines_of bs ≡ take n bs ∷ lines_of (drop (suc n) bs) =
    subst (λ (m : ℕ). lines_of bs ≡ take m bs ∷ lines_of (drop (suc m) bs)) (sym e) (rest (omega arith)) in
    subst (λ (m : ℕ). onto b (lines_of bs) ≡ take m (b ∷ bs) ∷ lines_of (drop (suc m) (b ∷ bs))) (sym f) (ap (onto b) whole)

first_line : (text : List ℕ) → line_length text < length text → lines_of text ≡ take (line_length text) text ∷ lines_of (drop (suc (line_length text)) text)
first_line [] h = absurd (omega arith)
first_line (b ∷ bs) h = by_first (b == 10) b bs (line_length bs) (1 + line_length bs) refl (omega arith) (first_line bs) h

take_rest : (xs : List ℕ) (k : ℕ) → take (length xs - k) (drop k xs) ≡ drop k xs
take_rest xs k = subst (λ (m : ℕ). take m (drop k xs) ≡ drop k xs) (length-drop k xs) (take-length (drop k xs))

pub before_feed : (text : List ℕ) (n : ℕ) → n ≡ line_length text → n < length text → lines_of text ≡ take n text ∷ lines_of (take (length text - (n + 1)) (drop (n + 1) text))
before_feed text n e h =
    let next : suc n ≡ n + 1 = omega arith in
    let whole : lines_of text ≡ take n text ∷ lines_of (drop (suc n) text) =
    subst (λ (m : ℕ). lines_of text ≡ take m text ∷ lines_of (drop (suc m) text)) (sym e) (first_line text (subst (λ (m : ℕ). m < length text) e h)) in
    whole ∙ ap (λ (m : ℕ). take n text ∷ lines_of (drop m text)) next ∙ ap (λ (xs : List ℕ). take n text ∷ lines_of xs) (sym (take_rest text (n + 1)))

-- without a line feed the text is one line

one_by_first : (c : Bool) (b : ℕ) (bs : List ℕ) (m : ℕ) → m ≡ suc (line_length bs) → (0 < length bs → length bs ≤ line_length bs → lines_of bs ≡ bs ∷ []) → suc (length bs) ≤ cond (not c) m 0
    → cond c ([] ∷ lines_of bs) (onto b (lines_of bs)) ≡ (b ∷ bs) ∷ []
one_by_first true b bs m e rest h = absurd (omega arith)
one_by_first false b [] m e rest h = refl
one_by_first false b (c ∷ cs) m e rest h = ap (onto b) (rest (omega arith) (omega arith))

one_line : (text : List ℕ) → 0 < length text → length text ≤ line_length text → lines_of text ≡ text ∷ []
one_line [] h k = absurd (omega arith)
one_line (b ∷ bs) h k = one_by_first (b == 10) b bs (1 + line_length bs) (omega arith) (one_line bs) k

pub last_line : (text front back : List ℕ) (n : ℕ) → 0 < length text → n ≡ line_length text → n ≤ length text → length text ≤ n → front ≡ take n text → back ≡ drop n text
    → lines_of text ≡ front ∷ lines_of back
last_line text front back n h e w k f g =
    let whole : n ≡ length text = omega arith in
    let first : front ≡ text = f ∙ ap (λ (m : ℕ). take m text) whole ∙ take-length text in
    let none : back ≡ [] = g ∙ ap (λ (m : ℕ). drop m text) whole ∙ drop-length text in
    one_line text h (subst (λ (m : ℕ). length text ≤ m) e k) ∙ ap (λ (xs : List ℕ). xs ∷ []) (sym first) ∙ ap (λ (xs : List ℕ). front ∷ lines_of xs) (sym none)
