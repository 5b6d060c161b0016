-- One function, or one object, more.
use Rattle.std.proofs.Common.{◌≡◌, ℕ, suc, ◌+◌, ◌^◌, ◌<◌, nat_lt, length, drop, get_or, drop-cons, Bool, true, false, ◌||◌, ◌==◌, if◌then◌else◌, Option, None, List, [], ◌∷◌, refl, sym, ap, ◌∙◌, arith}
use Rattle.vp_io.specs.declared.answers.Reason.{Reason}
use Rattle.c_tree.specs.declared.token.At.{At}
use Rattle.c_tree.specs.declared.typed.Static.{Static}
use Rattle.c_tree.specs.declared.typed.Function.{Function}
use Rattle.c_tree.specs.declared.typed.Typed.{Typed}
use Rattle.c_limits.specs.Sums.{capped}
use Rattle.c_limits.specs.Weights.{function_weight}
use Rattle.c_limits.specs.Frames.{object_bytes, frame_bytes}
use Rattle.c_limits.specs.Limits.{told_if, most_weight, function_faults, static_faults, limit_faults}
use Rattle.c_limits.specs.First.{first_of}
use Rattle.c_limits.proofs.Sums.{above_capped, capped_twice}
use Rattle.c_limits.proofs.Earliest.{first_of-append}

one_more : (b : Bool) (rule : ℕ) (at : At) (rest : List Reason) (o : Option Reason) → first_of (first_of o (told_if b rule at [])) rest ≡ first_of o (told_if b rule at rest)
one_more true rule at rest o = refl
one_more false rule at rest o = refl

most_is_small : (b : Bool) → (if b then 12000 else 100000) < 2 ^ 40
most_is_small true = omega arith
most_is_small false = omega arith

-- ---- functions

heavy_capped : (w b v : ℕ) → nat_lt (most_weight w) (capped b + v) ≡ nat_lt (most_weight w) (b + v)
heavy_capped w b v =
    sym (above_capped (most_weight w) (capped b + v) (most_is_small (w == 16)))
    ∙ (ap (nat_lt (most_weight w)) (capped_twice b v) ∙ above_capped (most_weight w) (b + v) (most_is_small (w == 16)))

functions_capped : (w : ℕ) (fs : List Function) (b : ℕ) → function_faults [] w (capped b) fs ≡ function_faults [] w b fs
functions_capped w [] b = refl
functions_capped w (f ∷ fs) b =
    ap (λ r. told_if (nat_lt 32000 (frame_bytes [] w f)) 41 f.at (told_if (nat_lt 12000 (function_weight [] f) || r) 42 f.at (function_faults [] w (capped b + function_weight [] f) fs)))
    (heavy_capped w b (function_weight [] f))
    ∙ ap (λ rest. told_if (nat_lt 32000 (frame_bytes [] w f)) 41 f.at (told_if (nat_lt 12000 (function_weight [] f) || nat_lt (most_weight w) (b + function_weight [] f)) 42 f.at rest))
    (sym (functions_capped w fs (capped b + function_weight [] f)) ∙ (ap (λ n. function_faults [] w n fs) (capped_twice b (function_weight [] f)) ∙ functions_capped w fs (b + function_weight [] f)))

pub function_more : (w s : ℕ) (f : Function) (rest : List Function) (o : Option Reason) (weight sum : ℕ) → weight ≡ capped (function_weight [] f) → sum ≡ capped (s + weight)
    → first_of (first_of (first_of o (told_if (nat_lt 32000 (frame_bytes [] w f)) 41 f.at [])) (told_if (nat_lt 12000 weight || nat_lt (most_weight w) sum) 42 f.at [])) (function_faults [] w sum rest)
    ≡ first_of o (function_faults [] w s (f ∷ rest))
function_more w s f rest o weight sum e k =
    let total : sum ≡ capped (s + function_weight [] f) = k ∙ (ap (λ v. capped (s + v)) e ∙ omega arith) in
    let light : nat_lt 12000 weight ≡ nat_lt 12000 (function_weight [] f) = ap (nat_lt 12000) e ∙ above_capped 12000 (function_weight [] f) (omega arith) in
    let heavy : nat_lt (most_weight w) sum ≡ nat_lt (most_weight w) (s + function_weight [] f) = ap (nat_lt (most_weight w)) total ∙ above_capped (most_weight w) (s + function_weight [] f) (most_is_small (w == 16)) in
    let first = first_of o (told_if (nat_lt 32000 (frame_bytes [] w f)) 41 f.at []) in
    ap (λ x. first_of (first_of first (told_if (x || nat_lt (most_weight w) sum) 42 f.at [])) (function_faults [] w sum rest)) light
    ∙ (ap (λ x. first_of (first_of first (told_if (nat_lt 12000 (function_weight [] f) || x) 42 f.at [])) (function_faults [] w sum rest)) heavy
    ∙ (ap (λ x. first_of (first_of first (told_if (nat_lt 12000 (function_weight [] f) || nat_lt (most_weight w) (s + function_weight [] f)) 42 f.at [])) x)
    (ap (λ n. function_faults [] w n rest) total ∙ functions_capped w rest (s + function_weight [] f))
    ∙ (one_more (nat_lt 12000 (function_weight [] f) || nat_lt (most_weight w) (s + function_weight [] f)) 42 f.at (function_faults [] w (s + function_weight [] f) rest) first
    ∙ one_more (nat_lt 32000 (frame_bytes [] w f)) 41 f.at (told_if (nat_lt 12000 (function_weight [] f) || nat_lt (most_weight w) (s + function_weight [] f)) 42 f.at (function_faults [] w (s + function_weight [] f) rest)) o)))

-- ---- objects

statics_capped : (w room : ℕ) → room < 2 ^ 32 → (xs : List Static) (n b : ℕ) → static_faults w room n (capped b) xs ≡ static_faults w room n b xs
statics_capped w room small [] n b = refl
statics_capped w room small (x ∷ xs) n b =
    let size = object_bytes w x.object in
    let past : nat_lt room (capped b + size) ≡ nat_lt room (b + size) =
    sym (above_capped room (capped b + size) (omega (arith, small))) ∙ (ap (nat_lt room) (capped_twice b size) ∙ above_capped room (b + size) (omega (arith, small))) in
    ap (λ r. told_if (r || nat_lt 60000 (n + 1)) 43 x.object.at (static_faults w room (n + 1) (capped b + size) xs)) past
    ∙ ap (λ rest. told_if (nat_lt room (b + size) || nat_lt 60000 (n + 1)) 43 x.object.at rest)
    (sym (statics_capped w room small xs (n + 1) (capped b + size)) ∙ (ap (λ k. static_faults w room (n + 1) k xs) (capped_twice b size) ∙ statics_capped w room small xs (n + 1) (b + size)))

pub static_more : (w room : ℕ) → room < 2 ^ 32 → (n s : ℕ) (x : Static) (rest : List Static) (o : Option Reason) (sum : ℕ) → sum ≡ capped (s + object_bytes w x.object)
    → first_of (first_of o (told_if (nat_lt room sum || nat_lt 60000 (n + 1)) 43 x.object.at [])) (static_faults w room (n + 1) sum rest)
    ≡ first_of o (static_faults w room n s (x ∷ rest))
static_more w room small n s x rest o sum e =
    let past : nat_lt room sum ≡ nat_lt room (s + object_bytes w x.object) = ap (nat_lt room) e ∙ above_capped room (s + object_bytes w x.object) (omega (arith, small)) in
    ap (λ r. first_of (first_of o (told_if (r || nat_lt 60000 (n + 1)) 43 x.object.at [])) (static_faults w room (n + 1) sum rest)) past
    ∙ (ap (λ r. first_of (first_of o (told_if (nat_lt room (s + object_bytes w x.object) || nat_lt 60000 (n + 1)) 43 x.object.at [])) r)
    (ap (λ k. static_faults w room (n + 1) k rest) e ∙ statics_capped w room small rest (n + 1) (s + object_bytes w x.object))
    ∙ one_more (nat_lt room (s + object_bytes w x.object) || nat_lt 60000 (n + 1)) 43 x.object.at (static_faults w room (n + 1) (s + object_bytes w x.object) rest) o)

-- ---- a turn of each loop

drop_at : {A : Type 0} (xs : List A) (i : ℕ) (x : A) → i < length xs → x ≡ get_or xs i x → drop i xs ≡ x ∷ drop (i + 1) xs
drop_at xs i x lt is =
    let next : suc i ≡ i + 1 = omega arith in
    drop-cons xs i x lt ∙ (ap (λ y. y ∷ drop (suc i) xs) (sym is) ∙ ap (λ k. x ∷ drop k xs) next)

pub after_function : (w s i : ℕ) (fs : List Function) (f : Function) (o o1 o2 : Option Reason) (b1 b2 : Bool) (weight sum : ℕ) (whole : Option Reason)
    → i < length fs → f ≡ get_or fs i f → weight ≡ capped (function_weight [] f) → sum ≡ capped (s + weight)
    → b1 ≡ nat_lt 32000 (frame_bytes [] w f) → o1 ≡ first_of o (told_if b1 41 f.at [])
    → b2 ≡ (nat_lt 12000 weight || nat_lt (most_weight w) sum) → o2 ≡ first_of o1 (told_if b2 42 f.at [])
    → first_of o (function_faults [] w s (drop i fs)) ≡ whole → first_of o2 (function_faults [] w sum (drop (i + 1) fs)) ≡ whole
after_function w s i fs f o o1 o2 b1 b2 weight sum whole lt is ew es e1 k1 e2 k2 inv =
    let rest = drop (i + 1) fs in
    let first : o1 ≡ first_of o (told_if (nat_lt 32000 (frame_bytes [] w f)) 41 f.at []) = k1 ∙ ap (λ b. first_of o (told_if b 41 f.at [])) e1 in
    let second : o2 ≡ first_of (first_of o (told_if (nat_lt 32000 (frame_bytes [] w f)) 41 f.at [])) (told_if (nat_lt 12000 weight || nat_lt (most_weight w) sum) 42 f.at []) =
    k2 ∙ (ap (λ x. first_of x (told_if b2 42 f.at [])) first ∙ ap (λ b. first_of (first_of o (told_if (nat_lt 32000 (frame_bytes [] w f)) 41 f.at [])) (told_if b 42 f.at [])) e2) in
    ap (λ x. first_of x (function_faults [] w sum rest)) second
    ∙ (function_more w s f rest o weight sum ew es ∙ (ap (λ l. first_of o (function_faults [] w s l)) (sym (drop_at fs i f lt is)) ∙ inv))

pub after_static : (w room : ℕ) → room < 2 ^ 32 → (s i : ℕ) (xs : List Static) (x : Static) (o o1 : Option Reason) (b : Bool) (size sum : ℕ) (whole : Option Reason)
    → i < length xs → x ≡ get_or xs i x → size ≡ object_bytes w x.object → sum ≡ capped (s + size)
    → b ≡ (nat_lt room sum || nat_lt 60000 (i + 1)) → o1 ≡ first_of o (told_if b 43 x.object.at [])
    → first_of o (static_faults w room i s (drop i xs)) ≡ whole → first_of o1 (static_faults w room (i + 1) sum (drop (i + 1) xs)) ≡ whole
after_static w room small s i xs x o o1 b size sum whole lt is ez es e k inv =
    let rest = drop (i + 1) xs in
    ap (λ y. first_of y (static_faults w room (i + 1) sum rest)) (k ∙ ap (λ c. first_of o (told_if c 43 x.object.at [])) e)
    ∙ (static_more w room small i s x rest o sum (es ∙ ap (λ z. capped (s + z)) ez)
    ∙ (ap (λ l. first_of o (static_faults w room i s l)) (sym (drop_at xs i x lt is)) ∙ inv))

pub judged : (w room known : ℕ) (t : Typed) (fs : List Function) (xs : List Static) (first result : Option Reason)
    → room ≡ known → fs ≡ t.functions → xs ≡ t.statics → first ≡ first_of None (function_faults [] w 0 fs) → result ≡ first_of first (static_faults w room 0 0 xs)
    → first_of None (limit_faults [] w known t) ≡ result
judged w room known t fs xs first result er ef ex e1 e2 =
    first_of-append (function_faults [] w 0 t.functions) (static_faults w known 0 0 t.statics) None
    ∙ sym (e2 ∙ (ap (λ y. first_of y (static_faults w room 0 0 xs)) (e1 ∙ ap (λ gs. first_of None (function_faults [] w 0 gs)) ef)
    ∙ (ap (λ ys. first_of (first_of None (function_faults [] w 0 t.functions)) (static_faults w room 0 0 ys)) ex
    ∙ ap (λ r. first_of (first_of None (function_faults [] w 0 t.functions)) (static_faults w r 0 0 t.statics)) er)))
