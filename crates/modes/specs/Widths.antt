-- A control at a width: the generic functions are for operands of one width, whatever the control's
-- own field says.
use Rattle.std.specs.Prelude.{Bool}
use Rattle.unit.specs.declared.Control.{Control}

abbrev pub at_width : Bool → Control → Control
at_width w k = record { words = w; signed = k.signed; aggregation = k.aggregation; polarity = k.polarity; high = k.high }
