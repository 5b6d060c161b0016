-- The search in one row gives the binding of the first list of choices.
use Rattle.std.proofs.Common.{◌≡◌, ℕ, ◌<◌, true, List, map, length, take, Some, sym, subst, arith}
use Rattle.rtl_tree.specs.Moves.{Move}
use Rattle.md_rows.specs.declared.row.Hole.{Hole}
use Rattle.md_rows.specs.declared.instance.Bound.{Bound}
use Rattle.md_rows.specs.Instances.{AllFit}
use Rattle.md_match.specs.Slots.{Slots, no_slots, Fit, fit_of}
use Rattle.md_match.specs.Searches.{Marks, no_marks, Search, is_idle, match_all}
use Rattle.md_match.specs.Ways.{FoundAll}
use Rattle.md_match.specs.Does.{Does, IsRow, known}
use Rattle.md_match.proofs.Filling.{IsHeld, IsSane}
use Rattle.md_match.proofs.Whole.{IsPartOf}
use Rattle.md_match.proofs.Binding.{own_holds, fit_each, fit_length, sane, room, none_held, none_room}
use Rattle.md_match.proofs.Choices.{match_some}
use Rattle.md_match.proofs.Done.{accepted}
use Rattle.md_match.proofs.Undone.{reached_accepted}
use Rattle.recogniser.specs.Choices.{Choice, Earlier, TakesBy}
use Rattle.recogniser.specs.Searching.{IsFirstBinding}
use Rattle.recogniser.proofs.Order.{listed, tried_before}
use Rattle.recogniser.proofs.Ways.{ways_of, ways_take_by}
use Rattle.recogniser.proofs.Reached.{LedAll, takes_led}
use Rattle.recogniser.proofs.Doing.{start, bound, does_by}

-- the ways of a binding that makes the row do the transfer
led_by : (w g : ℕ) (holes : List Hole) (t : Search) (es : List Move) (b : List Bound) (marks : Marks) (cs : List Choice)
    → t.fit ≡ fit_of w g holes → IsRow holes t.row → AllFit w g holes b → TakesBy t.row b no_marks es cs marks
    → LedAll t es cs no_marks no_slots marks (map Some b)
led_by w g holes t es b marks cs fit row all takes =
    let holds = own_holds b (length holes) (fit_length w g holes b all) in
    let held : (h : ℕ) → h < length holes → IsHeld t.fit (map Some b) h = λ h l.
    (let x = holds.each h l in
    record {
      value = x.0;
      held = x.1;
      fitting = subst (λ (z : Fit). z h x.0 ≡ true) (sym fit) (fit_each w g holes b all h x.0 x.2);
    }) in
    let below : IsPartOf t.fit no_slots (map Some b) = record {
      grows = λ h v p. absurd (none_held h v p);
      room = λ h v p q. (let z : fit_of w g holes h v ≡ true = subst (λ (f : Fit). f h v ≡ true) fit p in
          let l = room w g holes h v z in none_room h (omega (arith, l, row.few_holes)) q);
    } in
    takes_led t holes (subst IsSane (sym fit) (sane w g holes)) row b (map Some b) holds held es cs no_marks marks takes no_slots below

-- no earlier list of choices makes the row do the transfer
none_earlier : (w g : ℕ) (holes : List Hole) (t : Search) (es : List Move) (u : Slots) → t.fit ≡ fit_of w g holes → t.count ≡ length holes
    → IsRow holes t.row → (f : FoundAll t es no_marks no_slots u) (b : List Bound) (marks : Marks) (cs : List Choice)
    → Does w g holes (is_idle t.flags t.barred) t.row es b marks → TakesBy t.row b no_marks es cs marks → Earlier cs (listed es f.by) → ⊥
none_earlier w g holes t es u fit count row f b marks cs does takes earlier =
    let r = led_by w g holes t es b marks cs fit row does.fit takes in
    let before = tried_before es r.by f.by (ways_of t es r.by no_marks no_slots marks r.to r.ways) (ways_of t es f.by no_marks no_slots f.left f.to f.ways)
    (subst (λ (ds : List Choice). Earlier ds (listed es f.by)) (sym r.is) earlier) in
    reached_accepted w g holes t es b marks count row does (record { by = r.by; to = r.to; ways = r.ways; below = r.below })
    (f.first r.by marks r.to r.ways before)

pub row_first : (w g : ℕ) (holes : List Hole) (t : Search) (es : List Move) (u : Slots) → t.fit ≡ fit_of w g holes → t.count ≡ length holes
    → IsRow holes t.row → match_all t es no_marks no_slots ≡ Some u
    → IsFirstBinding w g holes (is_idle t.flags t.barred) t.row es (known (take (length holes) u))
row_first w g holes t es u fit count row e =
    let f = match_some t es no_marks no_slots u e in
    let ok = accepted t f.left f.to u f.goes in
    subst (λ (v : Slots). IsFirstBinding w g holes (is_idle t.flags t.barred) t.row es (known (take (length holes) v))) ok.0
    (record {
      marks = f.left;
      choices = listed es f.by;
      does = does_by w g holes t es f.by f.left f.to fit count row f.ways ok.1;
      by = ways_take_by t holes es f.by no_marks no_slots f.left f.to row f.ways (start t.fit) (known (take (length holes) f.to))
          (bound holes t es f.by f.left f.to count row f.ways ok.1);
      first = none_earlier w g holes t es u fit count row f;
    })
