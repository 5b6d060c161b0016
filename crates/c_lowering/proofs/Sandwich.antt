-- Two runs, each of which goes as far as the other: they are the same.
use Rattle.std.proofs.Common.{◌≡◌, ◌≢◌, ℕ, List, sym, subst}
use Rattle.behaviour.specs.Behaviour.{Wrong, Behaviour, Running, Ended, Failed, output, IsPrefix, IsExtendedBy}
use Rattle.behaviour.specs.Run.{Run, NeverFails, Same}
use Rattle.behaviour.proofs.Prefix.{prefix_refl}

pub shown : (a b : Behaviour) → IsExtendedBy a b → IsPrefix (output a) (output b)
shown (Running out) b e = e
shown (Ended out status) b e = subst (λ x. IsPrefix out (output x)) (sym e) (prefix_refl out)
shown (Failed out why) b e = subst (λ x. IsPrefix out (output x)) (sym e) (prefix_refl out)

sound : (source : Run) → NeverFails source → (n : ℕ) (out : List ℕ) (why : Wrong) (seen : Behaviour) → IsExtendedBy seen (source n) → seen ≢ Failed out why
sound source never n out why seen e f = never.at n out why (subst (λ s. IsExtendedBy s (source n)) f e)

ends_so : (source : Run) (n : ℕ) (out : List ℕ) (status : ℕ) (seen : Behaviour) → IsExtendedBy seen (source n) → seen ≡ Ended out status → source n ≡ Ended out status
ends_so source n out status seen e f = subst (λ s. IsExtendedBy s (source n)) f e

pub sandwich : (source target : Run) → NeverFails source → ((n : ℕ) → (m : ℕ) × IsExtendedBy (source n) (target m)) → ((m : ℕ) → (n : ℕ) × IsExtendedBy (target m) (source n)) → Same source target
sandwich source target never up down = record {
  ends = λ n out status e. let u = up n in (u.0, subst (λ s. IsExtendedBy s (target u.0)) e u.1);
  nothing_else = λ m. let d = down m in record {
    no_failure = λ out why. sound source never d.0 out why (target m) d.1;
    no_other_output = (d.0, shown (target m) (source d.0) d.1);
    no_other_end = λ out status e. (d.0, ends_so source d.0 out status (target m) d.1 e);
  };
  prints = λ n. let u = up n in (u.0, shown (source n) (target u.0) u.1);
}
