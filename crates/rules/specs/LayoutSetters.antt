-- A layout field by field, and each field set anew. Nothing of document 01 is said here. Assumes nothing.
use Rattle.std.specs.Prelude.{Bool, ℕ, Option}
use Rattle.rules.specs.Settings.{Across, Down, Setting, Layout}

-- a layout, field by field
abbrev pub layout : Setting → Setting → Setting → Down → Option Across → Bool → Bool → ℕ → Layout
layout l i o p t f a c = record { line = l; indent = i; offset = o; page = p; total = t; filling = f; adjusting = a; centred = c }

-- ll set anew
abbrev pub with_line : Setting → Layout → Layout
with_line v y = layout v y.indent y.offset y.page y.total y.filling y.adjusting y.centred

-- in set anew
abbrev pub with_indent : Setting → Layout → Layout
with_indent v y = layout y.line v y.offset y.page y.total y.filling y.adjusting y.centred

-- po set anew
abbrev pub with_offset : Setting → Layout → Layout
with_offset v y = layout y.line y.indent v y.page y.total y.filling y.adjusting y.centred

-- pl set anew
abbrev pub with_page_length : Down → Layout → Layout
with_page_length v y = layout y.line y.indent y.offset v y.total y.filling y.adjusting y.centred

-- the ti total set anew, or used up
abbrev pub with_total : Option Across → Layout → Layout
with_total v y = layout y.line y.indent y.offset y.page v y.filling y.adjusting y.centred

-- fi or nf
abbrev pub with_filling : Bool → Layout → Layout
with_filling v y = layout y.line y.indent y.offset y.page y.total v y.adjusting y.centred

-- ad or na
abbrev pub with_adjusting : Bool → Layout → Layout
with_adjusting v y = layout y.line y.indent y.offset y.page y.total y.filling v y.centred

-- another number of lines to centre
abbrev pub with_centred : ℕ → Layout → Layout
with_centred v y = layout y.line y.indent y.offset y.page y.total y.filling y.adjusting v
