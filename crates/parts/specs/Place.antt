-- A part of a text as the code tells it is one of the definitions.
use Rattle.bench_text.specs.Text as told
use Rattle.parts.specs.declared.Part.{Part}

abbrev pub text_part : Part → told.Part
text_part p = record { at = p.at; size = p.size }
