-- Objects that are laid out in a row are placed.
use Rattle.std.proofs.Common.{◌≡◌, ℕ, zero, suc, ◌+◌, ◌*◌, ◌-◌, ◌/◌, ◌%◌, ◌^◌, ◌<◌, ◌≤◌, List, [], ◌∷◌, ◌++◌, length, replicate, Some, None, unwrap_or, sym, ap, ◌∙◌, subst, arith}
use Rattle.std.specs.Prelude.{slice_get, slice_index, All}
use Rattle.std.specs.List.{flat_map, range_with_len}
use Rattle.std.proofs.lemmas.List.{length-append, append_assoc}
use Rattle.std.proofs.lemmas.List.Elements.{All-nil, All-cons, All-weaker}
use Rattle.rtl_word.specs.Words.{IsWordSize}
use Rattle.rtl_word.proofs.Below.{by_size}
use Rattle.rtl_effect.specs.Views.{word_at}
use Rattle.c_tree.specs.declared.typed.Static.{Static}
use Rattle.c_limits.specs.Frames.{object_bytes}
use Rattle.c_meaning.specs.Run.{listed}
use Rattle.temp_machine.specs.Routines.{Image, Target}
use Rattle.temp_machine.specs.Machine.{first_byte}
use Rattle.naive_run.specs.Law.{cell_bytes, element_count, HoldsStatic}
use Rattle.naive_data.specs.Layout.{element_data, filling, object_data, data_of, size_of, addresses}
use Rattle.naive_data.specs.Placed.{IsAddress, IsPlaced}
use Rattle.naive_data.proofs.Lengths.{words, length_object, length_data, length_addresses}
use Rattle.naive_data.proofs.Bytes.{data_small, element_there}

none_there : {A B : Type 0} (x : B) → None ≡ Some x → A
none_there x e = absurd (grind (arith, e))

words_more : (w a n : ℕ) → IsWordSize w → a % (w / 8) ≡ 0 → n % (w / 8) ≡ 0 → (a + n) % (w / 8) ≡ 0
words_more w a n size = by_size (λ w. a % (w / 8) ≡ 0 → n % (w / 8) ≡ 0 → (a + n) % (w / 8) ≡ 0) (λ h k. omega (arith, h, k)) (λ h k. omega (arith, h, k)) w size

words_between : (w a b : ℕ) → IsWordSize w → b ≤ a → a % (w / 8) ≡ 0 → b % (w / 8) ≡ 0 → a ≡ b + (a - b) / (w / 8) * (w / 8)
words_between w a b size le =
    by_size (λ w. a % (w / 8) ≡ 0 → b % (w / 8) ≡ 0 → a ≡ b + (a - b) / (w / 8) * (w / 8)) (λ h k. omega (arith, le, h, k)) (λ h k. omega (arith, le, h, k)) w size

-- ---- one behind another

not_before : (w a : ℕ) (ss : List Static) (y : ℕ) (r : Static) → slice_get ss y ≡ Some r → a ≤ slice_index (addresses w a ss) y
not_before w a [] y r e = none_there r e
not_before w a (s ∷ ss) zero r e = omega arith
not_before w a (s ∷ ss) (suc y) r e = let h = not_before w (a + object_bytes w s.object) ss y r e in omega (arith, h)

apart : (w a : ℕ) (ss : List Static) (x y : ℕ) (s r : Static) → x < y → slice_get ss x ≡ Some s → slice_get ss y ≡ Some r
    → slice_index (addresses w a ss) x + object_bytes w s.object ≤ slice_index (addresses w a ss) y
apart w a [] x y s r lt e f = none_there r f
apart w a (q ∷ ss) x zero s r lt e f = absurd (omega (arith, lt))
apart w a (q ∷ ss) zero (suc y) s r lt e f =
    let same : q ≡ s = ap (λ o. unwrap_or o q) e in
    subst (λ z. a + object_bytes w z.object ≤ slice_index (addresses w (a + object_bytes w q.object) ss) y) same (not_before w (a + object_bytes w q.object) ss y r f)
apart w a (q ∷ ss) (suc x) (suc y) s r lt e f = apart w (a + object_bytes w q.object) ss x y s r (omega (arith, lt)) e f

module _ (t : Target) (u : Image) (size : IsWordSize t.word) (whole : t.base % (t.word / 8) ≡ 0) where
  -- the object is at the address
  record Found (a : ℕ) (s : Static) : Type 0 where
    from : t.base ≤ a
    to : a + object_bytes t.word s.object ≤ t.base + length u.bytes
    aligned : a % (t.word / 8) ≡ 0
    values : (i v : ℕ) → i < element_count s.object → listed t.word (Some s) i ≡ Some v
        → word_at (first_byte t u) (a + cell_bytes t.word s.object * i) (cell_bytes t.word s.object) ≡ Some (v % 256 ^ cell_bytes t.word s.object)

  found_here : (before rest : List ℕ) (a : ℕ) (s : Static) → a ≡ t.base + length before → a % (t.word / 8) ≡ 0 → u.bytes ≡ before ++ (object_data t.word s ++ rest) → Found a s
  found_here before rest a s at aligned e =
      let cells = flat_map (element_data t.word s) (range_with_len 0 (element_count s.object)) in
      let zeros : List ℕ = replicate (filling t.word s.object) 0 in
      let cut : u.bytes ≡ before ++ (cells ++ (zeros ++ rest)) = e ∙ ap (λ bs. before ++ bs) (append_assoc cells zeros rest) in
      let all : length u.bytes ≡ length before + (length (object_data t.word s) + length rest) =
      ap length e ∙ (length-append before (object_data t.word s ++ rest) ∙ ap (λ n. length before + n) (length-append (object_data t.word s) rest)) in
      let long = length_object t.word s size in
      record {
        from = omega (arith, at);
        to = omega (arith, at, all, long);
        aligned = aligned;
        values = λ i v lt is.
            let there = element_there t u t.word s (element_count s.object) 0 i (a + cell_bytes t.word s.object * i) i before (zeros ++ rest) lt (omega (arith, at)) (omega arith) cut in
            there ∙ ap (λ o. Some (unwrap_or o 0 % 256 ^ cell_bytes t.word s.object)) is;
      }

  found : (before : List ℕ) (a : ℕ) (ss : List Static) (x : ℕ) (s : Static) → a ≡ t.base + length before → a % (t.word / 8) ≡ 0 → u.bytes ≡ before ++ data_of t.word ss
      → slice_get ss x ≡ Some s → Found (slice_index (addresses t.word a ss) x) s
  found before a [] x s at aligned e is = none_there s is
  found before a (r ∷ ss) zero s at aligned e is =
      subst (Found a) (ap (λ o. unwrap_or o r) is) (found_here before (data_of t.word ss) a r at aligned e)
  found before a (r ∷ ss) (suc x) s at aligned e is =
      let these = object_data t.word r in
      let ahead = length-append before these in
      let long = length_object t.word r size in
      let next : u.bytes ≡ (before ++ these) ++ data_of t.word ss = e ∙ sym (append_assoc before these (data_of t.word ss)) in
      found (before ++ these) (a + object_bytes t.word r.object) ss x s (omega (arith, at, ahead, long)) (words_more t.word a (object_bytes t.word r.object) size aligned (words t.word r.object size)) next is

  are_addresses : (a : ℕ) (ss : List Static) → t.base ≤ a → a % (t.word / 8) ≡ 0 → a + size_of t.word ss ≤ t.base + length u.bytes → All (IsAddress t u) (addresses t.word a ss)
  are_addresses a [] from aligned to = All-nil (IsAddress t u)
  are_addresses a (s ∷ ss) from aligned to =
      let n = object_bytes t.word s.object in
      let here : IsAddress t u a =
      record { count = (a - t.base) / (t.word / 8); multiple = words_between t.word a t.base size from aligned whole; within = omega (arith, to) } in
      All-cons (IsAddress t u) a (addresses t.word (a + n) ss) here
      (are_addresses (a + n) ss (omega (arith, from)) (words_more t.word a n size aligned (words t.word s.object size)) (omega (arith, to)))

  module _ (ss : List Static) (room : t.base + size_of t.word ss < 2 ^ t.word) (symbols : u.symbols ≡ addresses t.word t.base ss) (bytes : u.bytes ≡ data_of t.word ss) where
    long : length u.bytes ≡ size_of t.word ss
    long = ap length bytes ∙ length_data t.word ss size

    found_at : (x : ℕ) (s : Static) → slice_get ss x ≡ Some s → Found (slice_index u.symbols x) s
    found_at x s is = subst (λ zs. Found (slice_index zs x) s) (sym symbols) (found [] t.base ss x s (omega arith) whole bytes is)

    holds : (x : ℕ) (s : Static) → slice_get ss x ≡ Some s → HoldsStatic t u x s
    holds x s is = let f = found_at x s is in record { from = f.from; to = f.to; aligned = f.aligned; values = f.values }

    places : All (IsAddress t u) u.symbols
    places = subst (All (IsAddress t u)) (sym symbols) (are_addresses t.base ss (omega arith) whole (omega (arith, long)))

    placed : IsPlaced t u ss
    placed = record {
      count = ap length symbols ∙ length_addresses t.word t.base ss;
      size = long;
      bytes = subst (All (λ b. b < 256)) (sym bytes) (data_small t.word ss);
      symbols = All-weaker (IsAddress t u) (λ a. a < 2 ^ t.word) (λ a h. let le = h.within in omega (arith, le, long, room)) u.symbols places;
      places = places;
      held = holds;
      apart = λ x y s r lt e f. subst (λ zs. slice_index zs x + object_bytes t.word s.object ≤ slice_index zs y) (sym symbols) (apart t.word t.base ss x y s r lt e f);
    }

pub placed_by : (w base : ℕ) (ss : List Static) (symbols bytes : List ℕ) → IsWordSize w → base % (w / 8) ≡ 0 → base + size_of w ss < 2 ^ w
    → symbols ≡ addresses w base ss → bytes ≡ data_of w ss → (t : Target) (u : Image) → t.word ≡ w → t.base ≡ base → u.symbols ≡ symbols → u.bytes ≡ bytes → IsPlaced t u ss
placed_by w base ss symbols bytes size whole room are_symbols are_bytes t u word begin same_symbols same_bytes =
    placed t u (subst IsWordSize (sym word) size)
    (subst (λ v. t.base % (v / 8) ≡ 0) (sym word) (subst (λ b. b % (w / 8) ≡ 0) (sym begin) whole))
    ss
    (subst (λ v. t.base + size_of v ss < 2 ^ v) (sym word) (subst (λ b. b + size_of w ss < 2 ^ w) (sym begin) room))
    (same_symbols ∙ (are_symbols ∙ (ap (λ b. addresses w b ss) (sym begin) ∙ ap (λ v. addresses v t.base ss) (sym word))))
    (same_bytes ∙ (are_bytes ∙ ap (λ v. data_of v ss) (sym word)))
