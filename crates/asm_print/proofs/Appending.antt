-- Text that grows by lines.
use Rattle.std.proofs.Common.{◌≡◌, ℕ, zero, suc, ◌+◌, ◌-◌, ◌<◌, ◌≤◌, List, [], ◌∷◌, ◌++◌, length, map, take, drop, get_or, All, refl, sym, ap, subst, ◌∙◌, arith, append_assoc}
use Rattle.std.proofs.lemmas.List.Elements.{All-tail}
use Rattle.asm_program.specs.TextLines.{Label, Said, Labelled}
use Rattle.asm_print.specs.Written.{line_text, text_of}
use Rattle.asm_print.specs.Layout.{Stop, woven, AreBetween}

-- a tab, a line and a line feed
pub appended : (old a b c line bytes : List ℕ) → a ≡ old ++ 9 ∷ [] → b ≡ a ++ bytes → c ≡ b ++ 10 ∷ [] → bytes ≡ line → c ≡ old ++ (9 ∷ (line ++ 10 ∷ []))
appended old a b c line bytes e f g h =
    g ∙ ap (λ (xs : List ℕ). xs ++ 10 ∷ []) (f ∙ ap (λ (xs : List ℕ). xs ++ bytes) e ∙ ap (λ (xs : List ℕ). (old ++ 9 ∷ []) ++ xs) h)
    ∙ append_assoc (old ++ 9 ∷ []) line (10 ∷ []) ∙ append_assoc old (9 ∷ []) (line ++ 10 ∷ [])

pub text_append : (xs ys : List Said) → text_of (xs ++ ys) ≡ text_of xs ++ text_of ys
text_append [] ys = refl
text_append (x ∷ xs) ys = ap (λ (zs : List ℕ). line_text x ++ zs) (text_append xs ys) ∙ sym (append_assoc (line_text x) (text_of xs) (text_of ys))

-- the lines up to a label, and the label
pub woven_more : (now one two whole : List ℕ) (k at : ℕ) (l : Label) (stops : List Stop) (lines front behind : List Said) → front ≡ take (at - k) lines → behind ≡ drop (at - k) lines
    → one ≡ now ++ text_of front → two ≡ one ++ line_text (Labelled l) → now ++ text_of (woven k ((l, at) ∷ stops) lines) ≡ whole → two ++ text_of (woven at stops behind) ≡ whole
woven_more now one two whole k at l stops lines front behind e f g h w =
    let rest = text_of (woven at stops behind) in
    ap (λ (xs : List ℕ). xs ++ rest) (h ∙ ap (λ (xs : List ℕ). xs ++ line_text (Labelled l)) g)
    ∙ append_assoc (now ++ text_of front) (line_text (Labelled l)) rest
    ∙ append_assoc now (text_of front) (line_text (Labelled l) ++ rest)
    ∙ ap (λ (xs : List ℕ). now ++ xs) (sym (text_append front (Labelled l ∷ woven at stops behind)))
    ∙ ap (λ (xs : List Said). now ++ text_of (xs ++ Labelled l ∷ woven at stops behind)) e
    ∙ ap (λ (xs : List Said). now ++ text_of (take (at - k) lines ++ Labelled l ∷ woven at stops xs)) f
    ∙ w

pub map_take : {A B : Type 0} (f : A → B) (n : ℕ) (xs : List A) → map f (take n xs) ≡ take n (map f xs)
map_take f zero [] = refl
map_take f zero (x ∷ xs) = refl
map_take f (suc n) [] = refl
map_take f (suc n) (x ∷ xs) = ap (λ (ys : List _). f x ∷ ys) (map_take f n xs)

pub map_drop : {A B : Type 0} (f : A → B) (n : ℕ) (xs : List A) → map f (drop n xs) ≡ drop n (map f xs)
map_drop f zero [] = refl
map_drop f zero (x ∷ xs) = refl
map_drop f (suc n) [] = refl
map_drop f (suc n) (x ∷ xs) = map_drop f n xs

-- labels in order are between the first place and the last

pub between : {A : Type 0} (f : A → Stop) (low high : ℕ) (xs : List A) → low ≤ high → ((i j : ℕ) (d : A) → i ≤ j → j < length xs → (f (get_or xs i d)).1 ≤ (f (get_or xs j d)).1)
    → ((k : ℕ) (d : A) → k < length xs → low ≤ (f (get_or xs k d)).1) → ((k : ℕ) (d : A) → k < length xs → (f (get_or xs k d)).1 ≤ high) → AreBetween low high (map f xs)
between f low high [] h order least most = h
between f low high (x ∷ xs) h order least most = (
  least 0 x (omega arith),
  between f (f x).1 high xs (most 0 x (omega arith)) (λ i j d l w. order (suc i) (suc j) d (omega (arith, l)) (omega (arith, w)))
      (λ k d w. order 0 (suc k) d (omega arith) (omega (arith, w))) (λ k d w. most (suc k) d (omega (arith, w))),
)

-- one more of a list that is gone over

drop_at : {A : Type 0} (xs : List A) (i : ℕ) (d : A) → i < length xs → drop i xs ≡ get_or xs i d ∷ drop (i + 1) xs
drop_at [] i d h = absurd (omega (arith, h))
drop_at (x ∷ xs) zero d h = refl
drop_at (x ∷ xs) (suc i) d h =
    drop_at xs i d (let q : suc i < suc (length xs) = h in omega arith)
    ∙ ap (λ (n : ℕ). get_or xs i d ∷ drop n (x ∷ xs)) (let q : suc (i + 1) ≡ suc i + 1 = omega arith in q)

pub all_drop : {A : Type 0} (P : A → Type 0) (n : ℕ) (xs : List A) → All P xs → All P (drop n xs)
all_drop P zero xs h = h
all_drop P (suc n) [] h = h
all_drop P (suc n) (x ∷ xs) h = all_drop P n xs (All-tail P x xs h)

between_ends : (low high : ℕ) (stops : List Stop) → AreBetween low high stops → low ≤ high
between_ends low high [] h = h
between_ends low high (s ∷ stops) h = let first = h.0 in let rest = between_ends s.1 high stops h.1 in omega (arith, first, rest)

module _ {A : Type 0} (f : A → Stop) (xs : List A) (i : ℕ) (d : A) (within : i < length xs) where
  first_between : (k e : ℕ) → AreBetween k e (map f (drop i xs)) → (k ≤ (f (get_or xs i d)).1) × AreBetween (f (get_or xs i d)).1 e (map f (drop (i + 1) xs))
  first_between k e b = subst (λ (ys : List A). AreBetween k e (map f ys)) (drop_at xs i d within) b

  -- there are lines enough up to the next label
  pub room_for : (k n : ℕ) → AreBetween k (k + n) (map f (drop i xs)) → (f (get_or xs i d)).1 - k ≤ n
  room_for k n b =
      let r = first_between k (k + n) b in
      let last = between_ends (f (get_or xs i d)).1 (k + n) (map f (drop (i + 1) xs)) r.1 in
      omega (arith, last)

  pub next_order : (k n m : ℕ) → AreBetween k (k + n) (map f (drop i xs)) → m + ((f (get_or xs i d)).1 - k) ≡ n
      → AreBetween (f (get_or xs i d)).1 ((f (get_or xs i d)).1 + m) (map f (drop (i + 1) xs))
  next_order k n m b e =
      let r = first_between k (k + n) b in
      let first = r.0 in
      subst (λ (h : ℕ). AreBetween (f (get_or xs i d)).1 h (map f (drop (i + 1) xs))) (let q : k + n ≡ (f (get_or xs i d)).1 + m = omega (arith, first, e) in q) r.1

  pub next_text : (now one two whole : List ℕ) (k : ℕ) (lines front behind : List Said) → front ≡ take ((f (get_or xs i d)).1 - k) lines → behind ≡ drop ((f (get_or xs i d)).1 - k) lines
      → one ≡ now ++ text_of front → two ≡ one ++ line_text (Labelled (f (get_or xs i d)).0) → now ++ text_of (woven k (map f (drop i xs)) lines) ≡ whole
      → two ++ text_of (woven (f (get_or xs i d)).1 (map f (drop (i + 1) xs)) behind) ≡ whole
  next_text now one two whole k lines front behind e g h j w =
      woven_more now one two whole k (f (get_or xs i d)).1 (f (get_or xs i d)).0 (map f (drop (i + 1) xs)) lines front behind e g h j
      (subst (λ (ys : List A). now ++ text_of (woven k (map f ys) lines) ≡ whole) (drop_at xs i d within) w)
