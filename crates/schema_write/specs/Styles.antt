-- How a family of schemas writes known markers and clips.
use Rattle.schema_write.specs.declared.families.Family.{Family}
use Rattle.schema_write.specs.declared.families.Family.TheVariants.{Old, New}
use Rattle.schema_write.specs.Objects.{Style, newer, older}

abbrev pub style_of : Family → Style
style_of Old = older
style_of New = newer
