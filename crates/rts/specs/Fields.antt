-- The kinds of DATA: their fields in order, each with its range (002); a POST has its SET's (document 02).
-- Assumes nothing.
use Rattle.std.specs.Prelude.{ℕ, true, List, [], ◌∷◌, map, length, get_or}
use Rattle.meaning.specs.Tests.{Test, succeeds, ◌and◌}
use Rattle.rts.specs.Range.{◌to◌, even_to, ◌takes◌}
use Rattle.rts.specs.declared.field.{Range.{Range}, Field.{Field}}
use Rattle.rts.specs.declared.data.{
  Position.{Position},
  Step.{Step},
  Mode.{Mode},
  Counts.{Counts},
  Frames.{Frames},
  Sun.{Sun},
  Contact.{Contact},
}
use Rattle.rts.specs.declared.table.Line.{Line}

-- A field and its range.
abbrev pub ◌within◌ : ℕ → Range → Field
◌within◌ value range = record { value = value; range = range }

infix 69 ◌within◌
abbrev pub value_of : Field → ℕ
value_of field = field.value

abbrev pub fits : Field → Test
fits field = field.range takes field.value

-- Every field is in its range.
abbrev pub fit : List Field → Test
fit [] = succeeds true
fit (field ∷ []) = fits field
fit (field ∷ next ∷ fields) = fits field and fit (next ∷ fields)

-- The first four bytes of DATA, zeros past its end.
abbrev pub four_of : List ℕ → List ℕ
four_of d = get_or d 0 0 ∷ get_or d 1 0 ∷ get_or d 2 0 ∷ get_or d 3 0 ∷ []

-- A message on the wire, as a value.
abbrev pub line_as : (number : ℕ) → List Field → Line
line_as number fields =
    record {
      number = number;
      count = length (map value_of fields);
      fields = four_of (map value_of fields);
      fitting = (fit fields).holds;
    }

-- The channel, and one of two.
abbrev pub channels : Range
channels = 0 to 15

abbrev pub either : Range
either = 0 to 1

-- 80h. Order: 1 up or on, 2 down or off, 3 stop, 4 favourite.
abbrev pub position : Position → List Field
position d = d.channel within channels ∷ d.order within (1 to 4) ∷ []

-- 81h and 82h. Direction: 0 plus, 1 minus.
abbrev pub step : Step → List Field
step d = d.channel within channels ∷ d.direction within either ∷ d.value within (1 to 127) ∷ []

-- 90h and B0h. Ergonomics: 0 CE, 1 US; movement: 0 rolling, 1 tilting; modulis: 0 normal, 1 Modulis.
abbrev pub mode : Mode → List Field
mode d = d.channel within channels ∷ d.ergonomics within either ∷ d.movement within either ∷ d.modulis within either ∷ []

-- 91h and B1h. How many RTS frames, in US mode and in CE mode.
abbrev pub counts : Counts → List Field
counts d = d.channel within channels ∷ d.us within (4 to 255) ∷ d.ce within (2 to 13) ∷ []

-- 92h and B2h. How many RTS frames.
abbrev pub frames : Frames → List Field
frames d = d.channel within channels ∷ d.count within (4 to 255) ∷ []

-- 93h. Off: 0 sun auto on, 1 off.
abbrev pub sun : Sun → List Field
sun d = d.channel within channels ∷ d.off within either ∷ []

-- 94h. Input: 0 all, 1 to 5 that one; lock: 0 unlock, 1 lock.
abbrev pub contact : Contact → List Field
contact d = d.input within (0 to 5) ∷ d.lock within either ∷ []

-- A channel alone; and the inputs that are locked, bits 1 to 5.
abbrev pub channel : ℕ → List Field
channel number = number within channels ∷ []

abbrev pub inputs : ℕ → List Field
inputs locked = locked within even_to 0x3E ∷ []
