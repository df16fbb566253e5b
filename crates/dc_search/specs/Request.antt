-- What a search sends for each of its steps (EN 13757-3, selection with wildcards; EN 13757-2, REQ_UD2).
use Rattle.std.specs.Prelude.{true, Option, Some, None}
use Rattle.dc_linkframe.specs.Control.{request_to, selected, selection_by}
use Rattle.dc_linkframe.specs.Frame.{FrameSeen}
use Rattle.dc_address.specs.Mask.{mask_wire}
use Rattle.dc_search.specs.declared.step.Step.{Step}
use Rattle.dc_search.specs.declared.step.Step.TheVariants.{Select, Request, Done, Budget}

-- a selection by its mask, or a request for data with frame count bit 1; nothing at the end
abbrev pub request_by : Step → Option FrameSeen
request_by (Select mask) = Some (selection_by (mask_wire mask))
request_by Request = Some (request_to true selected)
request_by Done = None
request_by Budget = None
