-- The measures of an image where none are asked for.
use Rattle.drive.specs.declared.geometry.Geometry.{Geometry}

-- 4 cylinders of 2 heads, with room for 8 sectors of 512 bytes on a track
abbrev pub usual_geometry : Geometry
usual_geometry = record { cylinders = 4; heads = 2; capacity = 4096 }
