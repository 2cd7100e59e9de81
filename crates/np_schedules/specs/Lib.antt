pub mod EventLines
pub mod Events
pub mod ReadingLaws
pub mod ScheduleFiles
pub mod ScheduleLines
pub mod Schedules
pub mod inside
