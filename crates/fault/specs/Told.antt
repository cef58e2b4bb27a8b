-- What each refusal tells its caller: a number, the layer that refused, a place in the frame,
-- and the mark of what had been learned by then. Refusals are a closed list, and everything
-- that a caller is told follows from the case, line by line below.
use Rattle.std.specs.Prelude.{ℕ, cond, ◌&&◌, Some, None, Option, nat_le}
use Rattle.fault.specs.declared.layer.Layer.{Layer}
use Rattle.fault.specs.declared.layer.Layer.TheVariants.{Frame, Ingress, Relay, Elsewhere}
use Rattle.fault.specs.declared.mark.Mark.{Mark}
use Rattle.fault.specs.declared.refusal.Refusal.{Refusal}
use Rattle.fault.specs.declared.refusal.Refusal.TheVariants.{NotStarted, PortOutOfRange, FrameMemoryTooSmall, FrameTooShort, FrameTooLong, ReservedVid, CfiSet, FrameNotAdmitted, VlanNotCreated, NotMember, PortNotLearning, PortNotForwarding, ReservedDestination, NoEgressPort, OutputMemoryTooSmall, NoFrameStands, TimeBeforeClock, TimeTooLarge, UnknownEvent, NoTransition, FidOutOfRange, AlreadyStarted, PortCountOutOfRange, ClassCountOutOfRange, ShareOutOfRange, DepthOutOfRange, TableMemoryTooSmall, VidOutOfRange, PriorityOutOfRange, MemberOutOfRange, UntaggedNotMember, AlreadyThere, TooMany, AgeingOutOfRange, TagOutOfRange, LengthOutOfRange, DoesNotFit}

pub record Told : Type 0 where
  pub number : ℕ
  pub layer : Layer
  pub place : ℕ
  pub mark : Option Mark

-- the numbers by which callers know the layers
abbrev pub layer_number : Layer → ℕ
layer_number Frame = 1
layer_number Ingress = 2
layer_number Relay = 3
layer_number Elsewhere = 4

-- the layer by the refusal's number
abbrev pub layer_of : ℕ → Layer
layer_of n =
    cond (nat_le 4 n && nat_le n 7) Frame (cond (nat_le 8 n && nat_le n 10) Ingress (cond (nat_le 11 n && nat_le n 14) Relay Elsewhere))

-- nothing but the number, and the layer that goes with it
abbrev pub number_only : ℕ → Told
number_only n = record { number = n; layer = layer_of n; place = 0; mark = None }

-- about a place in the frame too
abbrev pub with_place : ℕ → ℕ → Told
with_place n place = record (number_only n) { place = place }

-- with the mark of what was learned before
abbrev pub with_mark : ℕ → Mark → Told
with_mark n mark = record (number_only n) { mark = Some mark }

abbrev pub told : Refusal → Told
told NotStarted = number_only 1
told PortOutOfRange = number_only 2
told FrameMemoryTooSmall = number_only 3
told (FrameTooShort length) = with_place 4 length
told (FrameTooLong length) = with_place 5 length
told ReservedVid = with_place 6 14
told CfiSet = with_place 7 14
told FrameNotAdmitted = number_only 8
told VlanNotCreated = number_only 9
told NotMember = number_only 10
told PortNotLearning = number_only 11
told (PortNotForwarding mark) = with_mark 12 mark
told (ReservedDestination mark) = with_mark 13 mark
told (NoEgressPort mark) = with_mark 14 mark
told OutputMemoryTooSmall = number_only 15
told NoFrameStands = number_only 16
told TimeBeforeClock = number_only 17
told TimeTooLarge = number_only 18
told UnknownEvent = number_only 19
told NoTransition = number_only 20
told FidOutOfRange = number_only 21
told AlreadyStarted = number_only 22
told PortCountOutOfRange = number_only 23
told ClassCountOutOfRange = number_only 24
told ShareOutOfRange = number_only 25
told DepthOutOfRange = number_only 26
told TableMemoryTooSmall = number_only 27
told VidOutOfRange = number_only 28
told PriorityOutOfRange = number_only 29
told MemberOutOfRange = number_only 30
told UntaggedNotMember = number_only 31
told AlreadyThere = number_only 32
told TooMany = number_only 33
told AgeingOutOfRange = number_only 34
told TagOutOfRange = number_only 35
told LengthOutOfRange = number_only 36
told DoesNotFit = number_only 37
