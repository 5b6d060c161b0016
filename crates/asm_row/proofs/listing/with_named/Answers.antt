use Rattle.std.proofs.Common.{◌≡◌, ◌++◌, ◌∷◌, [], ℕ, List, ap, ◌∙◌}
use Rattle.std.specs.Borrow.{Bor}
use Rattle.std.specs.HashMap.{get_by}
use Rattle.std.specs.Str.{bytes_eq}
use Rattle.asm_row.specs.Index.{listed}
use Rattle.asm_row.proofs.Indexed.{items_or_none, items_taken, listed_with}
use Rattle.asm_row.proofs.listing.with_named.Goals as goal

pub returns : goal.returns
returns c =
    let before = λ (name : List ℕ). get_by (λ k. bytes_eq name k.now) c.args.named in
    let between = λ (name : List ℕ). get_by (λ k. bytes_eq name k.now) c.remove.new.self in
    let after = λ (name : List ℕ). get_by (λ k. bytes_eq name k.now) c.insert.new.self in
    let taken : c.unwrap_or-found.result.items ≡ listed c.args.named c.args.name.now =
    ap (λ v. v.items) c.unwrap_or-found.ensures ∙ items_taken c.remove.result c.new.result c.new.ensures.items ∙ ap items_or_none c.remove.ensures.value in
    listed_with before between after c.args.name.now c.push.new.self c.args.place
    (λ other. let q : Bor (List ℕ) = record { ref_ptr = (0, 0); now = other } in c.remove.ensures.updates.0 q)
    (λ other. let q : Bor (List ℕ) = record { ref_ptr = (0, 0); now = other } in c.in_ok-insert.ensures.updates.0 q)
    (c.in_ok-push.ensures.items ∙ ap (λ fs. fs ++ c.args.place ∷ []) taken)
