use Rattle.std.proofs.Common.{◌≡◌, ℕ, List, [], Some, subst, ◌∙◌}
use Rattle.std.proofs.lemmas.Result.{IfOk-weaker}
use Rattle.md_shapes.specs.Shapes.{Frame}
use Rattle.md_covers.specs.Covers.{frame_in}
use Rattle.temp_machine.specs.Routines.{Target}
use Rattle.temp_code.specs.Routines.{routine_of}
use Rattle.temp_laws.specs.Targets.{target_of}
use Rattle.color_code.specs.Colors.{IsColoring, IsSparing}
use Rattle.color_registers.specs.Registers.{colors_of}
use Rattle.flow_live.specs.Tables.{IsLiveness}
use Rattle.color_graph.specs.Seats.{seats_of}
use Rattle.reg_color.proofs.colouring.colour.Goals as goal

pub returns-clause-coloring : goal.returns-clause-coloring
returns-clause-coloring g c =
    IfOk-weaker c.colour_by.result
    (λ k. (t : Target) → IsLiveness t (routine_of c.args.c.now) c.in_ok-live.live → IsColoring t (routine_of c.args.c.now) c.colours.result.now (seats_of k))
    (λ k. (frame : Frame) → frame_in c.args.m.now ≡ Some frame → IsColoring (target_of c.args.m.now frame []) (routine_of c.args.c.now) (colors_of c.args.m.now) (seats_of k))
    (λ k told frame is. subst (λ (cs : List ℕ). IsColoring (target_of c.args.m.now frame []) (routine_of c.args.c.now) cs (seats_of k)) (c.colours.ensures ∙ c.in_ok-registers.ensures.colors)
    (told (target_of c.args.m.now frame []) (c.in_ok-live.ensures frame is)))
    c.colour_by.ensures.coloring

pub returns-clause-sparing : goal.returns-clause-sparing
returns-clause-sparing g c =
    IfOk-weaker c.colour_by.result
    (λ k. (t : Target) → IsLiveness t (routine_of c.args.c.now) c.in_ok-live.live → IsSparing t (routine_of c.args.c.now) c.colours.result.now (seats_of k))
    (λ k. (frame : Frame) → frame_in c.args.m.now ≡ Some frame → IsSparing (target_of c.args.m.now frame []) (routine_of c.args.c.now) (colors_of c.args.m.now) (seats_of k))
    (λ k told frame is. subst (λ (cs : List ℕ). IsSparing (target_of c.args.m.now frame []) (routine_of c.args.c.now) cs (seats_of k)) (c.colours.ensures ∙ c.in_ok-registers.ensures.colors)
    (told (target_of c.args.m.now frame []) (c.in_ok-live.ensures frame is)))
    c.colour_by.ensures.sparing
