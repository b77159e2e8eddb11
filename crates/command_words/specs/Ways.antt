-- How what is written is asked for, as the code keeps it.
use Rattle.command_words.specs.Asked as asked
use Rattle.command_words.specs.declared.conversions.Ways.{Ways}

abbrev pub ways_of : Ways → asked.Ways
ways_of ways = record { drop = ways.drop; wide = ways.wide; older = ways.older; notes = ways.notes }
