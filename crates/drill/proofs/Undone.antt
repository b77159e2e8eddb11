-- Undoing all edits gives the timeline before the first one.
use Rattle.std.proofs.Common.{◌≡◌, refl, sym, ap, ◌∙◌, ℕ, zero, suc, List, [], ◌∷◌, Some, None}
use Rattle.otio_model.specs.declared.timelines.Timeline.{Timeline}
use Rattle.undo_log.specs.States.{State, moved, turned_some}
use Rattle.edit_script.specs.declared.commands.Act.{Act}
use Rattle.media_rows.specs.Rows.{MediaRows}
use Rattle.edit_script.specs.Runs.{Takes, edits, undoes, redoes}
use Rattle.script_law.specs.Shown.{undone}
use Rattle.drill.specs.Rounds.{Drills, Goes, Round, accepted, refused}
use Rattle.drill.specs.Rewinding.{rewound, rewound_to}

-- the first timeline of a state
abbrev first_of : State → Timeline
first_of s = undone s.now s.before

-- a step back keeps it
kept_back : (before : List Timeline) (t : Timeline) (after : List Timeline) (r : State)
    → moved before t after ≡ Some r → first_of r ≡ undone t before
kept_back [] t after r e = absurd (let f : None ≡ Some r = e in cc f)
kept_back (b ∷ before) t after r e =
    let same : record { before = before; now = b; after = t ∷ after } ≡ r =
    (let f : Some (record { before = before; now = b; after = t ∷ after }) ≡ Some r = e in cc f) in
    ap first_of (sym same)

-- and so does a step forward
kept_forth : (before : List Timeline) (t : Timeline) (after : List Timeline) (r : State)
    → turned_some (moved after t before) ≡ Some r → first_of r ≡ undone t before
kept_forth before t [] r e = absurd (let f : None ≡ Some r = e in cc f)
kept_forth before t (a ∷ after) r e =
    let same : record { before = t ∷ before; now = a; after = after } ≡ r =
    (let f : Some (record { before = t ∷ before; now = a; after = after }) ≡ Some r = e in cc f) in
    ap first_of (sym same)

kept_act : (media : MediaRows) (a : Act) (s r : State) → Takes media a s r
    → first_of r ≡ first_of s
kept_act media a s r (edits e t asks after is) = ap first_of is
kept_act media a s r (undoes e b) = kept_back s.before s.now s.after r b
kept_act media a s r (redoes e f) = kept_forth s.before s.now s.after r f

kept_round : (media : MediaRows) (a b : Round) → Goes media a b
    → first_of b.state ≡ first_of a.state
kept_round media a b (accepted takes number more) = kept_act media _ a.state b.state takes
kept_round media a b (refused why is) = ap (λ (r : Round). first_of r.state) is

pub kept_drill : (media : MediaRows) (n : ℕ) (a b : Round) → Drills media n a b
    → first_of b.state ≡ first_of a.state
kept_drill media zero a b h = ap (λ (r : Round). first_of r.state) h
kept_drill media (suc n) a b (c, h, g) = kept_round media c b g ∙ kept_drill media n a c h

-- rewinding gives it
rewound_first : (before : List Timeline) (t : Timeline) (after : List Timeline)
    → (rewound_to before t after).now ≡ undone t before
rewound_first [] t after = refl
rewound_first (b ∷ before) t after = rewound_first before b (t ∷ after)

pub rewound_now : (s : State) → (rewound s).now ≡ undone s.now s.before
rewound_now s = rewound_first s.before s.now s.after
