-- The first declaration that a test breaks is at the least such line.
use Rattle.std.proofs.Common.{◌≡◌, ℕ, ◌<◌, ◌≤◌, Bool, true, false, cond, IsTrue, List, [], ◌∷◌, ◌++◌, refl, sym, ap, ◌∙◌, subst, arith, append_assoc, append-nil}
use Rattle.std.proofs.lemmas.Bool.{true≢false}
use Rattle.std.specs.declared.option.Option.{Option}
use Rattle.std.specs.declared.option.Option.TheVariants.{Some, None}
use Rattle.md_text.specs.Forms.{Form}
use Rattle.md_text.specs.Declarations.{Declaration}
use Rattle.md_text.specs.Accepted.{HasBroken}
use Rattle.md_text.specs.Numbered.{GoUp}
use Rattle.md_rules.specs.Least.{IsLeast, first_broken}

-- a declaration of ds is broken, where those of front stand before ds
record BrokenBehind (test : List Declaration → Form → Bool) (front ds : List Declaration) (line : ℕ) : Type 0 where
  before : List Declaration
  after : List Declaration
  form : Form
  split : ds ≡ before ++ record { line = line; form = form } ∷ after
  breaks : IsTrue (test (front ++ before) form)

above : (n : ℕ) (ds before after : List Declaration) (d : Declaration) (last : ℕ) → GoUp n ds last → ds ≡ before ++ d ∷ after → n < d.line
above n [] [] after d last g e = absurd (cc)
above n [] (b ∷ before) after d last g e = absurd (cc)
above n (x ∷ ds) [] after d last g e = let same : x ≡ d = cc in subst (λ y. n < y.line) same g.0
above n (x ∷ ds) (b ∷ before) after d last g e =
    let rest : ds ≡ before ++ d ∷ after = cc in
    let less : x.line < d.line = above x.line ds before after d last g.1 rest in
    omega (arith, g.0)

same_least : (P Q : ℕ → Type 0) (o : Option ℕ) → ((m : ℕ) → P m → Q m) → ((m : ℕ) → Q m → P m) → IsLeast P o → IsLeast Q o
same_least P Q None to from least = λ m q. least m (from m q)
same_least P Q (Some n) to from least = (to n least.0, λ m q. least.1 m (from m q))

at_first :
    (test : List Declaration → Form → Bool) (front : List Declaration) (d : Declaration) (ds : List Declaration)
    → test front d.form ≡ true → BrokenBehind test front (d ∷ ds) d.line
at_first test front d ds e = record {
  before = [];
  after = ds;
  form = d.form;
  split = refl;
  breaks = ap (λ x. test x d.form) (append-nil front) ∙ e;
}

from_first :
    (test : List Declaration → Form → Bool) (front : List Declaration) (d : Declaration) (ds : List Declaration) (n last : ℕ)
    → GoUp n (d ∷ ds) last → (m : ℕ) (before after : List Declaration) (form : Form)
    → d ∷ ds ≡ before ++ record { line = m; form = form } ∷ after → d.line ≤ m
from_first test front d ds n last g m [] after form e =
    let same : d ≡ record { line = m; form = form } = cc in
    let lines : d.line ≡ m = ap (λ x. x.line) same in
    omega arith
from_first test front d ds n last g m (x ∷ before) after form e =
    let rest : ds ≡ before ++ record { line = m; form = form } ∷ after = cc in
    let more : d.line < m = above d.line ds before after (record { line = m; form = form }) last g.1 rest in
    omega arith

further :
    (test : List Declaration → Form → Bool) (front : List Declaration) (d : Declaration) (ds : List Declaration) (m : ℕ)
    → BrokenBehind test (front ++ d ∷ []) ds m → BrokenBehind test front (d ∷ ds) m
further test front d ds m b = record {
  before = d ∷ b.before;
  after = b.after;
  form = b.form;
  split = ap (λ xs. d ∷ xs) b.split;
  breaks = subst (λ x. IsTrue (test x b.form)) (append_assoc front (d ∷ []) b.before) b.breaks;
}

not_first :
    (test : List Declaration → Form → Bool) (front : List Declaration) (d : Declaration) (ds : List Declaration) (m : ℕ)
    (before after : List Declaration) (form : Form) → test front d.form ≡ false → d ∷ ds ≡ before ++ record { line = m; form = form } ∷ after
    → IsTrue (test (front ++ before) form) → BrokenBehind test (front ++ d ∷ []) ds m
not_first test front d ds m [] after form e split breaks =
    let same : d ≡ record { line = m; form = form } = cc in
    let false_here : test (front ++ []) form ≡ false = ap (λ x. test x form) (append-nil front) ∙ ap (λ x. test front x.form) (sym same) ∙ e in
    absurd (true≢false (sym breaks ∙ false_here))
not_first test front d ds m (x ∷ before) after form e split breaks =
    let same : d ≡ x = cc in
    let rest : ds ≡ before ++ record { line = m; form = form } ∷ after = cc in
    let longer : front ++ x ∷ before ≡ (front ++ d ∷ []) ++ before = ap (λ y. front ++ y ∷ before) (sym same) ∙ sym (append_assoc front (d ∷ []) before) in
    record {
      before = before;
      after = after;
      form = form;
      split = rest;
      breaks = subst (λ y. IsTrue (test y form)) longer breaks;
    }

least_behind :
    (test : List Declaration → Form → Bool) (front ds : List Declaration) (n last : ℕ) → GoUp n ds last
    → IsLeast (BrokenBehind test front ds) (first_broken test front ds)
least_behind test front [] n last g = λ m b. none (record { line = m; form = b.form }) b.before b.after b.split
  where
    none : (d : Declaration) (before after : List Declaration) → [] ≡ before ++ d ∷ after → ⊥
    none d [] after e = cc
    none d (x ∷ before) after e = cc
least_behind test front (d ∷ ds) n last g = by (test front d.form) refl (least_behind test (front ++ d ∷ []) ds d.line last g.1)
  where
    by :
        (b : Bool) → test front d.form ≡ b → IsLeast (BrokenBehind test (front ++ d ∷ []) ds) (first_broken test (front ++ d ∷ []) ds)
        → IsLeast (BrokenBehind test front (d ∷ ds)) (cond b (Some d.line) (first_broken test (front ++ d ∷ []) ds))
    by true e rest = (at_first test front d ds e, λ m b. from_first test front d ds n last g m b.before b.after b.form b.split)
    by false e rest =
        same_least (BrokenBehind test (front ++ d ∷ []) ds) (BrokenBehind test front (d ∷ ds)) (first_broken test (front ++ d ∷ []) ds)
        (further test front d ds) (λ m b. not_first test front d ds m b.before b.after b.form e b.split b.breaks) rest

pub least_broken :
    (test : List Declaration → Form → Bool) (ds : List Declaration) (last : ℕ) (o : Option ℕ) → GoUp 0 ds last → o ≡ first_broken test [] ds
    → IsLeast (HasBroken test ds) o
least_broken test ds last o g e =
    subst (IsLeast (HasBroken test ds)) (sym e)
    (same_least (BrokenBehind test [] ds) (HasBroken test ds) (first_broken test [] ds)
    (λ m b. record { before = b.before; after = b.after; form = b.form; split = b.split; breaks = b.breaks })
    (λ m b. record { before = b.before; after = b.after; form = b.form; split = b.split; breaks = b.breaks })
    (least_behind test [] ds 0 last g))

pub ordered_to : (n : ℕ) (ds : List Declaration) (last : ℕ) → GoUp n ds last → (before after : List Declaration) (d : Declaration) → ds ≡ before ++ d ∷ after → d.line ≤ last
ordered_to n [] last g [] after d e = absurd (cc)
ordered_to n [] last g (b ∷ before) after d e = absurd (cc)
ordered_to n (x ∷ ds) last g [] after d e =
    let same : x ≡ d = cc in
    subst (λ y. y.line ≤ last) same (reaches x.line ds last g.1)
  where
    reaches : (n : ℕ) (ds : List Declaration) (last : ℕ) → GoUp n ds last → n ≤ last
    reaches n [] last g = g
    reaches n (d ∷ ds) last g = let more = reaches d.line ds last g.1 in omega (arith, g.0, more)
ordered_to n (x ∷ ds) last g (b ∷ before) after d e =
    let rest : ds ≡ before ++ d ∷ after = cc in
    ordered_to x.line ds last g.1 before after d rest
