-- Each event of a timeline's list ends in its source where its speed has brought it.
use Rattle.std.proofs.Common.{◌≡◌, sym, ap₂, ℤ, pos, ◌+ℤ◌, ◌-ℤ◌, ◌*ℤ◌, Bool, true, None, refl, arith}
use Rattle.std.specs.Prelude.{All}
use Rattle.std.specs.Int.{int_div_euclid}
use Rattle.std.proofs.lemmas.Int.{ints}
use Rattle.tick_time.specs.declared.rates.Rate.{Rate}
use Rattle.tick_time.proofs.Wholes.{count-product}
use Rattle.otio_model.specs.declared.timelines.Timeline.{Timeline}
use Rattle.coord.specs.Programs.{start_frame}
use Rattle.coord.specs.Soundness.{IsCalm}
use Rattle.edl_list.specs.declared.list.Side.{Side}
use Rattle.edl_list.specs.declared.list.Event.{Event}
use Rattle.edl_list.specs.declared.list.EventList.{EventList}
use Rattle.edl_list.specs.Speeds.{side_speed}
use Rattle.media_rows.specs.Rows.{MediaRows}
use Rattle.edl_frames.specs.Sides.{source_at, speed_in}
use Rattle.edl_frames.specs.Carried.{not_carried, IsListOf}
use Rattle.edl_law.proofs.SideLooks.{job, speed_kept}
use Rattle.edl_law.proofs.EventsFormed.{SidesHold}
use Rattle.edl_law.proofs.EventsAccepted.{all_hold}
use Rattle.edl_law.proofs.ChannelEvents.{channels_hold}

-- the side ends in its source where its speed has brought it over so many frames of the record
abbrev pub EndsInSource : Rate → Side → ℤ → Type 0
EndsInSource rate side n = side.src_out
    ≡ side.src_in +ℤ int_div_euclid (n *ℤ pos (side_speed rate side)) (pos 1000000)

-- so it is with a side that is shown
abbrev pub ComesOut : Rate → Bool → Side → ℤ → Type 0
ComesOut rate shown side n = shown ≡ true → EndsInSource rate side n

black_out : (n : ℤ) → n ≡ pos 0 +ℤ int_div_euclid (n *ℤ pos 1000000) (pos 1000000)
black_out n =
    let e = count-product n (pos 1000000) (omega (arith, ints)) in
    omega (arith, ints, e)

sides_come_out : (rate : Rate) (first : ℤ) (media : MediaRows) (drop wide : Bool)
    → SidesHold (ComesOut rate) (job rate first media drop wide)
sides_come_out rate first media drop wide = record {
  black = λ n low high shown. black_out n;
  black_out = λ n shown. absurd (cc shown);
  clip = λ s r p f free low same shown.
      ap₂ (λ n z. source_at (job rate first media drop wide) r s.start p.at
      +ℤ int_div_euclid (n *ℤ z) (pos 1000000)) same
      (sym (speed_kept rate first media drop wide (speed_in r) f.tenths));
  clip_out = λ s r p f free low shown. absurd (cc shown);
}

-- ---- all events of a list

-- the side that is shown comes out
abbrev pub ShowsOut : Rate → Event → Type 0
ShowsOut rate e = EndsInSource rate e.to (e.rec_out -ℤ e.rec_in)

pub list_comes_out : (t : Timeline) (list : EventList) (media : MediaRows) (drop wide : Bool)
    → IsCalm t → not_carried t media drop wide ≡ None → IsListOf t media drop wide list
    → All (ShowsOut list.rate) list.events
list_comes_out t list media drop wide calm carried i =
    λ k x l. let q = all_hold (ComesOut list.rate) list.events
    (channels_hold (ComesOut list.rate) t list media drop wide
    (sides_come_out list.rate (start_frame t) media drop wide) calm carried i) k x l in q.1.to refl
