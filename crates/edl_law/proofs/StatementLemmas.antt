-- What written lines say, as plain data.
use Rattle.std.proofs.Common.{ℕ, true, false, List}
use Rattle.edl_text.specs.Statements as said
use Rattle.edl_text.specs.EventForms.{channels}
use Rattle.edl_text.specs.declared.statement_types.Channels.{Channels}
use Rattle.edl_text.specs.declared.statement_types.Kind.{Kind}
use Rattle.edl_text.specs.declared.statement_types.Kind.TheVariants as kinds
use Rattle.edl_list.specs.declared.list.Reel.{Reel}
use Rattle.edl_list.specs.declared.list.Reel.TheVariants.{Black, Named}
use Rattle.edl_list.specs.declared.list.Channel.{Channel}
use Rattle.edl_list.specs.declared.list.Channel.TheVariants.{V, A, A2}
use Rattle.edl_list.specs.declared.list.Cross.{Cross}
use Rattle.edl_list.specs.declared.list.Cross.TheVariants.{Cut, Dissolve, Wipe}

abbrev pub said_reel : Reel → said.Reel
said_reel Black = said.Black
said_reel (Named name) = said.Named name

abbrev pub said_channels : Channel → Channels
said_channels V = channels true false false
said_channels A = channels false true false
said_channels A2 = channels false false true

abbrev pub said_kind : Cross → Kind
said_kind Cut = kinds.Cut
said_kind (Dissolve frames from) = kinds.Dissolve frames
said_kind (Wipe code frames from) = kinds.Wipe code frames

-- an event line
abbrev pub said_event : ℕ → Reel → Channel → Cross → List ℕ → List ℕ → List ℕ → List ℕ → said.EventLine
said_event number reel channel cross a b c d = record {
  number = number;
  reel = said_reel reel;
  channels = said_channels channel;
  kind = said_kind cross;
  source_in = a;
  source_out = b;
  record_in = c;
  record_out = d;
}

-- a speed line
abbrev pub said_speed : Reel → ℕ → List ℕ → said.SpeedLine
said_speed reel tenths label = record { reel = said_reel reel; reverse = false; tenths = tenths; label = label }
