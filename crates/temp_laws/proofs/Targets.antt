-- The registers of the roles are different, and none of them is general.
use Rattle.std.proofs.Common.{◌≡◌, ℕ, suc, ◌<◌, Bool, true, false, List, [], ◌∷◌, max, slice_get, Option, Some, None, All, refl, sym, subst, ap, arith, ◌∙◌}
use Rattle.std.specs.Prelude.{◌≢◌, ◌==◌, nat_lt, if◌then◌else◌, AllPairs, slice_index_or}
use Rattle.std.specs.Int.{bit_at}
use Rattle.std.proofs.lemmas.Bool.Decides.{nat_tests}
use Rattle.std.proofs.lemmas.Nat.Bits.{bit_at-zero, bit_at_or, bit_at-pow_other}
use Rattle.std.proofs.lemmas.Option.{slice_get_within, get_or_from_slice_get}
use Rattle.md_rows.specs.declared.description.Register.{Register}
use Rattle.md_rows.specs.declared.description.Role.{Role}
use Rattle.md_rows.specs.declared.description.Role.TheVariants.{General, Result, Stack, Link, Other}
use Rattle.md_rows.specs.declared.description.RawDescription.{RawDescription}
use Rattle.md_rows.specs.Fits.{is_in}
use Rattle.md_rows.specs.Instances.{general_set}
use Rattle.md_shapes.specs.Shapes.{Frame}
use Rattle.md_covers.specs.Covers.{same_role, first_with, general_bit, general_bits, frame_with, frame_in}
use Rattle.md_said.specs.Sound.{SaidIsSound}
use Rattle.md_said.specs.Limits.{SaidIsLimited}
use Rattle.md_bounds.specs.Bounds.{SaidIsBounded}
use Rattle.md_check.specs.Accepted.{normalised}
use Rattle.md_check.specs.Checking.{IsChecked}
use Rattle.md_filled.proofs.Doing.{none_some, some_same, all_at}
use Rattle.temp_machine.specs.Units.{IsTarget}
use Rattle.temp_laws.specs.Targets.{target_of, TargetsAreSound}

clash : false ≡ true → ⊥
clash e = cc

same_role_is : (a b : Role) → same_role a b ≡ true → a ≡ b
same_role_is General General e = refl
same_role_is Result Result e = refl
same_role_is Stack Stack e = refl
same_role_is Link Link e = refl
same_role_is Other Other e = refl
same_role_is _ _ e = absurd (clash e)

-- a register of a role has this number
record HasRole (rs : List Register) (role : Role) (n : ℕ) : Type 0 where
  place : ℕ
  register : Register
  has : slice_get rs place ≡ Some register
  role_is : register.role ≡ role
  number : register.number ≡ n

has_role : (role : Role) (rs : List Register) (n : ℕ) → first_with role rs ≡ Some n → HasRole rs role n
has_role role [] n e = absurd (none_some n e)
has_role role (r ∷ rs) n e = by (λ k. has_role role rs n k) (same_role r.role role) refl e
  where
    behind : HasRole rs role n → HasRole (r ∷ rs) role n
    behind h = record { place = suc h.place; register = h.register; has = h.has; role_is = h.role_is; number = h.number }

    by : (first_with role rs ≡ Some n → HasRole rs role n) → (b : Bool) → same_role r.role role ≡ b → (if b then Some r.number else first_with role rs) ≡ Some n
        → HasRole (r ∷ rs) role n
    by next true k e = record { place = 0; register = r; has = refl; role_is = same_role_is r.role role k; number = some_same r.number n e }
    by next false k e = behind (next e)

abbrev Differ : List Register → Type 0
Differ rs = AllPairs (λ r s. r.number ≢ s.number) rs

in_order : (rs : List Register) → Differ rs → (i j : ℕ) (r s : Register) → i < j → slice_get rs i ≡ Some r → slice_get rs j ≡ Some s → r.number ≢ s.number
in_order rs h i j r s l e f =
    subst (λ (x : Register). x.number ≢ s.number) (get_or_from_slice_get rs i r r e)
    (subst (λ (x : Register). (slice_index_or rs i r).number ≢ x.number) (get_or_from_slice_get rs j s r f) (h i j r l (slice_get_within rs j s f)))

data Order (i j : ℕ) : Type 0 where
  before : i < j → Order i j
  same : i ≡ j → Order i j
  behind : j < i → Order i j

ordered : (i j : ℕ) → Order i j
ordered i j = by (nat_lt i j) (nat_lt j i) refl refl
  where
    by : (a b : Bool) → nat_lt i j ≡ a → nat_lt j i ≡ b → Order i j
    by true b e f = before (grind (arith, nat_tests, e))
    by false true e f = behind (grind (arith, nat_tests, f))
    by false false e f = same (grind (arith, nat_tests, e, f))

apart : (rs : List Register) → Differ rs → (i j : ℕ) (r s : Register) → slice_get rs i ≡ Some r → slice_get rs j ≡ Some s → (r.role ≡ s.role → ⊥) → r.number ≢ s.number
apart rs h i j r s e f unlike = by (ordered i j)
  where
    by : Order i j → r.number ≢ s.number
    by (before l) = in_order rs h i j r s l e f
    by (behind l) = λ q. in_order rs h j i s r l f e (sym q)
    by (same k) = absurd (unlike (ap (λ (x : Register). x.role) (some_same r s (sym e ∙ (ap (slice_get rs) k ∙ f)))))

roles_differ : (rs : List Register) (a b : Role) (m n : ℕ) → Differ rs → (a ≡ b → ⊥) → HasRole rs a m → HasRole rs b n → m ≢ n
roles_differ rs a b m n h unlike x y q =
    apart rs h x.place y.place x.register y.register x.has y.has (λ e. unlike (sym x.role_is ∙ (e ∙ y.role_is))) (x.number ∙ (q ∙ sym y.number))

-- a number that no general register has

bit_gone : (role : Role) (k n : ℕ) → k < 64 → (role ≡ General → n ≢ k) → bit_at (general_bit role k) n ≡ 0
bit_gone General k n l h = let t : nat_lt k 64 ≡ true = grind (arith, nat_tests, l) in rw t (bit_at-pow_other k n (h refl))
bit_gone Result k n l h = bit_at-zero n
bit_gone Stack k n l h = bit_at-zero n
bit_gone Link k n l h = bit_at-zero n
bit_gone Other k n l h = bit_at-zero n

bits_gone : (n : ℕ) (rs : List Register) → ((j : ℕ) (r : Register) → slice_get rs j ≡ Some r → r.number < 64)
    → ((j : ℕ) (r : Register) → slice_get rs j ≡ Some r → r.role ≡ General → n ≢ r.number) → bit_at (general_bits rs) n ≡ 0
bits_gone n [] small other = bit_at-zero n
bits_gone n (r ∷ rs) small other =
    let a = bit_gone r.role r.number n (small 0 r refl) (other 0 r refl) in
    let b = bits_gone n rs (λ j s e. small (suc j) s e) (λ j s e. other (suc j) s e) in
    bit_at_or (general_bit r.role r.number) (general_bits rs) n
    ∙ (ap (λ x. max x (bit_at (general_bits rs) n)) a ∙ ap (λ y. max 0 y) b)

not_general : (rs : List Register) (role : Role) (n : ℕ) → Differ rs → All (λ r. r.number < 64) rs → general_bits rs ≡ general_set rs → (role ≡ General → ⊥)
    → HasRole rs role n → is_in (general_set rs) n ≡ false
not_general rs role n h small sum unlike x =
    ap (λ (k : ℕ). k == 1) (ap (λ (g : ℕ). bit_at g n) (sym sum)
    ∙ bits_gone n rs (λ j r e. all_at (λ r. r.number < 64) rs j r small e)
    (λ j r e g q. apart rs h x.place j x.register r x.has e (λ k. unlike (sym x.role_is ∙ (k ∙ g))) (x.number ∙ q)))

-- what a description fixes

record Framed (d : RawDescription) (s q : Option ℕ) (frame : Frame) : Type 0 where
  stack : s ≡ Some frame.stack
  result : q ≡ Some frame.result
  link : first_with Link d.registers ≡ frame.link

framed : (d : RawDescription) (s q : Option ℕ) (frame : Frame) → frame_with d s q ≡ Some frame → Framed d s q frame
framed d (Some s) (Some q) frame e =
    let f = some_same _ frame e in
    record {
      stack = ap (λ (x : Frame). Some x.stack) f;
      result = ap (λ (x : Frame). Some x.result) f;
      link = ap (λ (x : Frame). x.link) f;
    }
framed d (Some s) None frame e = absurd (none_some frame e)
framed d None q frame e = absurd (none_some frame e)

stack_is_no_result : (let a : Role = Stack in a ≡ Result) → ⊥
stack_is_no_result e = cc

stack_is_no_link : (let a : Role = Stack in a ≡ Link) → ⊥
stack_is_no_link e = cc

result_is_no_link : (let a : Role = Result in a ≡ Link) → ⊥
result_is_no_link e = cc

stack_is_no_general : (let a : Role = Stack in a ≡ General) → ⊥
stack_is_no_general e = cc

result_is_no_general : (let a : Role = Result in a ≡ General) → ⊥
result_is_no_general e = cc

link_is_no_general : (let a : Role = Link in a ≡ General) → ⊥
link_is_no_general e = cc

abbrev pub BitsAreSum : Type 0
BitsAreSum = (rs : List Register) → All (λ r. r.number < 64) rs → Differ rs → general_bits rs ≡ general_set rs

abbrev Asked : Frame → List ℕ → RawDescription → Type 0
Asked frame kept e = frame_in e ≡ Some frame → All (λ k. is_in (general_set e.registers) k ≡ true) kept → IsTarget (target_of e frame kept)

asked : (w : ℕ) (d : RawDescription) (frame : Frame) (kept : List ℕ) → SaidIsSound → SaidIsLimited → SaidIsBounded → BitsAreSum → (c : IsChecked w d)
    → AllPairs (λ j k. j ≢ k) kept → Asked frame kept (normalised c.said)
asked w d frame kept sound limited bounded sums c differ is general =
    let s = sound c.text c.said c.accepted.says in
    let l = limited c.text c.said c.accepted.says in
    let b = bounded c.text c.said c.accepted.says in
    let rs = c.said.registers in
    let f = framed (normalised c.said) (first_with Stack rs) (first_with Result rs) frame is in
    let stack = has_role Stack rs frame.stack f.stack in
    let result = has_role Result rs frame.result f.result in
    let sum = sums rs l.numbers l.apart in
    record {
      size = s.size;
      memory = b.memory;
      words = b.words;
      stack = not_general rs Stack frame.stack l.apart l.numbers sum stack_is_no_general stack;
      result = not_general rs Result frame.result l.apart l.numbers sum result_is_no_general result;
      link = λ z e. not_general rs Link z l.apart l.numbers sum link_is_no_general (has_role Link rs z (f.link ∙ e));
      stack_is_no_result = roles_differ rs Stack Result frame.stack frame.result l.apart stack_is_no_result stack result;
      stack_is_no_link = λ z e. roles_differ rs Stack Link frame.stack z l.apart stack_is_no_link stack (has_role Link rs z (f.link ∙ e));
      result_is_no_link = λ z e. roles_differ rs Result Link frame.result z l.apart result_is_no_link result (has_role Link rs z (f.link ∙ e));
      kept = general;
      kept_differ = differ;
    }

pub targets_sound : SaidIsSound → SaidIsLimited → SaidIsBounded → BitsAreSum → TargetsAreSound
targets_sound sound limited bounded sums w d frame kept c is general differ =
    subst (Asked frame kept) (sym c.normal) (asked w d frame kept sound limited bounded sums c differ) is general
